-- Functions.
use Rattle.std.proofs.Common.{◌≡◌, ◌≤◌, ◌<◌, ◌+◌, ◌∙◌, ◌==◌, ℕ, zero, suc, Bool, true, false, List, [], ◌∷◌, drop, length, get_or, sym, ap, subst, refl, arith, add-one, codes}
use Rattle.std.proofs.Math.Seq.{drop-cons}
use Rattle.std.proofs.lemmas.Bool.Decides.{nat_tests}
use Rattle.base_text.specs.Text.{Text}
use Rattle.ast_types.specs.declared.script_fn.ScriptFuncDef.{ScriptFuncDef}
use Rattle.ast_types.specs.declared.stmt.Stmt as declared_stmt
use Rattle.ast_types.specs.Reading.{function_of, stmts_of}
use Rattle.theory_grammar.specs.Words.{Next, Quoted, Sign}
use Rattle.theory_grammar.specs.Statements.{ReadsBlock, ReadsFn, ReadsFunction, ReadsHead, ReadsName, ReadsNames, ReadsParams, ReadsType, function, names_comma, names_ended, names_more, no_params, params, private, public, type_name, type_named, type_text, typed, untyped}

pub function_at : {ws first second third rest : Text} (f : ScriptFuncDef) (x : Text) (xs : List Text) (ss : List declared_stmt.Stmt) → x ≡ f.name → xs ≡ f.params → ss ≡ f.body.block → ReadsFn ws first → ReadsHead first f.this_type x second → ReadsParams second xs third → ReadsBlock third (stmts_of ss) rest → ReadsFunction ws (function_of f) rest
function_at {first = first} {second = second} {third = third} {rest = rest} f x xs ss named with_params with_body a b c d = function (function_of f) a (subst (λ y. ReadsHead first f.this_type y second) named b) (subst (λ ys. ReadsParams second ys third) with_params c) (subst (λ ts. ReadsBlock third (stmts_of ts) rest) with_body d)

no_params_by : {ws rest : Text} (xs : List Text) → true ≡ (length xs == 0) → Next ws (Sign (codes "()")) rest → ReadsParams ws xs rest
no_params_by [] h w = no_params w
no_params_by (x ∷ xs) h w = absurd (grind (arith, nat_tests))

pub no_params_at : {ws rest : Text} (xs : List Text) (r : Bool) → r ≡ (length xs == 0) → r ≡ true → Next ws (Sign (codes "()")) rest → ReadsParams ws xs rest
no_params_at xs r h k w = no_params_by xs (sym k ∙ h) w

pub type_name_at : {ws rest : Text} (t : Text) → ReadsName ws t rest → ReadsType ws (type_named t) rest
type_name_at t n = type_name t n

pub type_text_at : {ws rest : Text} (t : Text) → Next ws (Quoted t) rest → ReadsType ws (type_named t) rest
type_text_at t w = type_text t w

pub type_as : {ws rest : Text} (t u : Text) → type_named t ≡ u → ReadsType ws (type_named t) rest → ReadsType ws u rest
type_as {ws = ws} {rest = rest} t u is r = subst (λ x. ReadsType ws x rest) is r

drop_all : (xs : List Text) (i : ℕ) → length xs ≤ i → drop i xs ≡ []
drop_all [] zero h = refl
drop_all [] (suc i) h = refl
drop_all (x ∷ xs) zero h = absurd (omega (arith, h))
drop_all (x ∷ xs) (suc i) h = drop_all xs i (omega (arith, h))

-- a parameter, a comma before it where one is owed
pub names_next : {place start mid rest : Text} {owed : Bool} (xs : List Text) (i : ℕ) (x y : Text) → i < length xs → x ≡ get_or xs i x → y ≡ x → ((rest2 : Text) (ys : List Text) → ReadsNames false start ys rest2 → ReadsNames owed place ys rest2) → ReadsName start y mid → ReadsNames true mid (drop (i + 1) xs) rest → ReadsNames owed place (drop i xs) rest
names_next {place = place} {start = start} {mid = mid} {rest = rest} {owed = owed} xs i x y h is same f n r = let split : drop i xs ≡ get_or xs i x ∷ drop (i + 1) xs = rw (add-one, drop-cons xs i x) refl in
    subst (λ ys. ReadsNames owed place ys rest) (sym (split ∙ ap (λ z. z ∷ drop (i + 1) xs) (sym is))) (f rest _ (names_more (subst (λ z. ReadsName start z mid) same n) r))

pub names_over : {ws rest : Text} {owed : Bool} (xs : List Text) (i : ℕ) → length xs ≤ i → ReadsNames owed ws [] rest → ReadsNames owed ws (drop i xs) rest
names_over {ws = ws} {rest = rest} {owed = owed} xs i h r = subst (λ ys. ReadsNames owed ws ys rest) (sym (drop_all xs i h)) r

pub names_end : {ws mid rest : Text} → Next ws (Sign (codes ",")) mid → Next mid (Sign (codes ")")) rest → ReadsNames true ws [] rest
names_end v w = names_comma v (names_ended w)

pub ruleset function_steps = (public, private, untyped, typed, type_name_at, type_text_at, type_as, names_comma, names_ended, names_end, params, no_params_at)
