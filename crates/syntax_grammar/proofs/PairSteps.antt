-- The pairs of maps.
use Rattle.std.proofs.Common.{◌≡◌, ◌≤◌, ◌<◌, ◌+◌, ◌∙◌, ℕ, zero, suc, Bool, true, false, List, [], ◌∷◌, drop, length, get_or, refl, sym, ap, subst, arith, codes}
use Rattle.base_text.specs.Text.{Text}
use Rattle.base_tokens.specs.declared.ident.Ident.{Ident}
use Rattle.ast_types.specs.declared.expr.Expr as declared_expr
use Rattle.ast_types.specs.Reading.{expr_of, pairs_of}
use Rattle.ast_types.proofs.ItemLists.{pairs_of-drop}
use Rattle.theory_meaning.specs.Tree.{MapOf, Pairs, no_pairs, pair}
use Rattle.theory_grammar.specs.Words.{Letters, Next, Quoted, Sign, is_name}
use Rattle.theory_grammar.specs.Grammar.{Reads, ReadsKey, ReadsPairs, a_pair, map, next_pair, no_pair, plain_key, text_key}
use Rattle.syntax_grammar.specs.Open.{Opened, ReadsOpen}
use Rattle.syntax_grammar.proofs.Steps.{behind_open}

pub plain_key_at : {ws rest : Text} (x : Text) → is_name x ≡ true → Next ws (Letters x) rest → ReadsKey ws x rest
plain_key_at x h w = plain_key x h w

pub text_key_at : {ws rest : Text} (x : Text) → Next ws (Quoted x) rest → ReadsKey ws x rest
text_key_at x w = text_key x w

pub pairs_ended : {ws mid rest : Text} → Next ws (Sign (codes ",")) mid → Next mid (Sign (codes "}")) rest → ReadsPairs true ws no_pairs rest
pairs_ended v w = next_pair v (no_pair w)

drop_all : (xs : List (Ident × declared_expr.Expr)) (i : ℕ) → length xs ≤ i → drop i xs ≡ []
drop_all [] zero h = refl
drop_all [] (suc i) h = refl
drop_all (x ∷ xs) zero h = absurd (omega (arith, h))
drop_all (x ∷ xs) (suc i) h = drop_all xs i (omega (arith, h))

pub pairs_over : {ws rest : Text} {owed : Bool} (xs : List (Ident × declared_expr.Expr)) (i : ℕ) → length xs ≤ i → ReadsPairs owed ws no_pairs rest → ReadsPairs owed ws (pairs_of (drop i xs)) rest
pairs_over {ws = ws} {rest = rest} {owed = owed} xs i h r = subst (λ ps. ReadsPairs owed ws (pairs_of ps) rest) (sym (drop_all xs i h)) r

-- a pair, a comma before it where one is owed
pub pairs_next : {place start mid behind last rest : Text} {owed : Bool} (xs : List (Ident × declared_expr.Expr)) (i : ℕ) (x : Ident × declared_expr.Expr) (key : Text) → i < length xs → x ≡ get_or xs i x → key ≡ x.0.name → ((rest2 : Text) (ps : Pairs) → ReadsPairs false start ps rest2 → ReadsPairs owed place ps rest2) → ReadsKey start key mid → Next mid (Sign (codes ":")) behind → Reads zero behind (expr_of x.1) last → ReadsPairs true last (pairs_of (drop (i + 1) xs)) rest → ReadsPairs owed place (pairs_of (drop i xs)) rest
pairs_next {place = place} {start = start} {mid = mid} {rest = rest} {owed = owed} xs i x key h is called f k w r rs = subst (λ ps. ReadsPairs owed place ps rest) (sym (pairs_of-drop xs i x h ∙ ap (λ (y : Ident × declared_expr.Expr). pair y.0.name (expr_of y.1) (pairs_of (drop (i + 1) xs))) (sym is))) (f rest _ (a_pair x.0.name (subst (λ (y : Text). ReadsKey start y mid) called k) w r rs))

pub map_open : {n : ℕ} {ws inner mid rest : Text} {ps : Pairs} (keys : List Text) → Opened n ws inner → Next inner (Sign (codes "#{")) mid → ReadsPairs false mid ps rest → ReadsOpen n 255 ws (MapOf ps keys) rest
map_open keys o w r = behind_open o (λ l. map keys w r)

pub ruleset pair_steps = (next_pair, no_pair, pairs_ended, plain_key_at, text_key_at)

pub ruleset map_steps = (map_open)
