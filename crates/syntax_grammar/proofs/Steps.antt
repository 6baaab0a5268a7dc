-- Steps of the checker.
use Rattle.std.proofs.Common.{◌≡◌, ◌≤◌, ◌<◌, ◌+◌, ℕ, ℤ, zero, suc, true, false, Some, refl, sym, subst, ◌∙◌, arith, add-one, codes, neg_ℤ}
use Rattle.base_text.specs.Text.{Text}
use Rattle.base_tokens.specs.declared.token.Token.{Token}
use Rattle.base_tokens.specs.declared.token.Token.TheVariants as token
use Rattle.base_tokens.specs.Symbols.{token_text}
use Rattle.theory_meaning.specs.Tree.{Expr, Exprs, FloatConstant, FnCall, IntegerConstant, UnitConstant, expr, no_exprs}
use Rattle.theory_grammar.specs.Words.{Letters, Next, PastGreatest, Sign}
use Rattle.theory_grammar.specs.Grammar.{Opposite, Reads, ReadsChain, ReadsRight, ReadsMore, Run, affirmed, between, chained, contained, contains, no_start, not_contained, of_float, of_in, of_integer, of_least, other_sign, first_level, has_any, is_range, joins, least, least_integer, least_left, marked, negated, of_bases, of_signs, parens, precedence, run, run_level, run_of, sign_of, signed, wide_unit}
use Rattle.syntax_grammar.specs.Open.{Opened, ReadsOpen}

-- ---- parentheses

pub opened_none : (ws : Text) → Opened zero ws ws
opened_none ws = refl

pub opened_more : (n m : ℕ) (ws mid inner : Text) → Opened n ws mid → m ≡ n + 1 → Next mid (Sign (codes "(")) inner → Opened m ws inner
opened_more n m ws mid inner o h s = subst (λ (k : ℕ). Opened k ws inner) (sym (h ∙ add-one n)) (mid, o, s)

-- one that was opened before is closed
pub close : {n level : ℕ} {ws behind rest : Text} {e : Expr} (m : ℕ) → n ≡ m + 1 → ReadsOpen n level ws e behind → Next behind (Sign (codes ")")) rest → ReadsOpen m 255 ws e rest
close {level = level} {ws = ws} {behind = behind} {e = e} m h o s = let o2 : ReadsOpen (suc m) level ws e behind = subst (λ (k : ℕ). ReadsOpen k level ws e behind) (h ∙ add-one m) o in record {
  inner = o2.before.0;
  before = o2.before.1;
  reads = λ l k. parens o2.before.2 (o2.reads zero (omega arith)) s;
}

-- all are closed
pub all_closed : {level n : ℕ} {ws rest : Text} {e : Expr} → n ≡ zero → ReadsOpen n level ws e rest → (l : ℕ) → l ≤ level → Reads l ws e rest
all_closed {level = level} {ws = ws} {rest = rest} {e = e} h o l k = let o2 : ReadsOpen zero level ws e rest = subst (λ (m : ℕ). ReadsOpen m level ws e rest) h o in subst (λ (x : Text). Reads l x e rest) (sym o2.before) (o2.reads l k)

-- what is read behind some parentheses, whatever the level
pub behind_open : {n : ℕ} {ws inner rest : Text} {e : Expr} → Opened n ws inner → ((l : ℕ) → Reads l inner e rest) → ReadsOpen n 255 ws e rest
behind_open {inner = inner} o r = record { inner = inner; before = o; reads = λ l k. r l }

-- a unit whose parenthesis was counted
pub wide_unit_open : {n : ℕ} {ws inner rest : Text} (m : ℕ) → n ≡ m + 1 → Opened n ws inner → Next inner (Sign (codes ")")) rest → ReadsOpen m 255 ws UnitConstant rest
wide_unit_open {ws = ws} {inner = inner} m h o s = let o2 : Opened (suc m) ws inner = subst (λ (k : ℕ). Opened k ws inner) (h ∙ add-one m) o in record {
  inner = o2.0;
  before = o2.1;
  reads = λ l k. wide_unit o2.2 s;
}

pub ruleset paren_steps = (opened_none, opened_more, close, all_closed, behind_open, wide_unit_open)

-- ---- operators

pub operate : {n level : ℕ} {ws mid behind rest : Text} {a b : Expr} (t : Token) → zero < precedence t → least_left t ≤ level → ReadsOpen n level ws a mid → Next mid (Sign (token_text t)) behind → ReadsRight t behind b rest → ReadsOpen n (precedence t) ws (FnCall (marked t) (expr a (expr b no_exprs))) rest
operate t positive left o s behind_it = record {
  inner = o.inner;
  before = o.before;
  reads = λ l h. between t h positive (o.reads (least_left t) left) s behind_it;
}

pub range_open : {n : ℕ} {ws inner behind rest : Text} {b : Expr} (t : Token) → is_range t ≡ true → Opened n ws inner → Next inner (Sign (token_text t)) behind → ReadsRight t behind b rest → ReadsOpen n (precedence t) ws (FnCall (marked t) (expr UnitConstant (expr b no_exprs))) rest
range_open {inner = inner} t h o s behind_it = record { inner = inner; before = o; reads = λ l k. no_start t k h s behind_it }

pub contain : {n level : ℕ} {ws mid behind rest : Text} {a b : Expr} → 110 ≤ level → ReadsOpen n level ws a mid → Next mid (Letters (codes "in")) behind → Reads 111 behind b rest → ReadsOpen n 110 ws (FnCall contains (expr b (expr a no_exprs))) rest
contain left o s right = record { inner = o.inner; before = o.before; reads = λ l h. contained h (o.reads of_in left) s right }

pub contain_not : {n level : ℕ} {ws mid behind rest : Text} {a b : Expr} → 110 ≤ level → ReadsOpen n level ws a mid → Next mid (Letters (codes "!in")) behind → Reads 111 behind b rest → ReadsOpen n 110 ws (FnCall (marked token.Bang) (expr (FnCall contains (expr b (expr a no_exprs))) no_exprs)) rest
contain_not left o s right = record { inner = o.inner; before = o.before; reads = λ l h. not_contained h (o.reads of_in left) s right }

pub list_operands : {n level : ℕ} {ws mid rest : Text} {a : Expr} {es : Exprs} (k : Run) → first_level k a ≤ level → has_any es ≡ true → ReadsOpen n level ws a mid → ReadsMore k mid es rest → ReadsOpen n (run_level k) ws (run_of k (expr a es)) rest
list_operands {a = a} k left h o others = record {
  inner = o.inner;
  before = o.before;
  reads = λ l i. run k i h (o.reads (first_level k a) left) others;
}

pub sign_open : {n : ℕ} {ws inner mid rest : Text} {e : Expr} (t s : Token) → sign_of t ≡ Some s → joins t e ≡ false → Opened n ws inner → Next inner (Sign (token_text s)) mid → Reads of_signs mid e rest → ReadsOpen n 220 ws (FnCall (marked t) (expr e no_exprs)) rest
sign_open {inner = inner} t s h i o w right = record { inner = inner; before = o; reads = λ l k. signed t s k h i w right }

pub chain_open : {n level : ℕ} {ws mid rest : Text} {a e : Expr} → of_bases ≤ level → ReadsOpen n level ws a mid → ReadsChain mid a e rest → ReadsOpen n 220 ws e rest
chain_open h o c = record { inner = o.inner; before = o.before; reads = λ l k. chained k (o.reads of_bases h) c }

-- ---- signs over numbers

opposite_open : {n : ℕ} {ws inner mid rest : Text} {a e : Expr} → Opposite a e → Opened n ws inner → Next inner (Sign (codes "-")) mid → Reads of_signs mid a rest → ReadsOpen n 220 ws e rest
opposite_open {inner = inner} op o s r = record { inner = inner; before = o; reads = λ l k. negated k s r op }

pub negated_open : {n : ℕ} {ws inner mid rest : Text} (v w : ℤ) → v ≡ neg_ℤ w → Opened n ws inner → Next inner (Sign (codes "-")) mid → Reads of_signs mid (IntegerConstant w) rest → ReadsOpen n 220 ws (IntegerConstant v) rest
negated_open {n = n} {ws = ws} {rest = rest} v w h o s r = subst (λ x. ReadsOpen n 220 ws (IntegerConstant x) rest) (sym h) (opposite_open (of_integer w) o s r)

pub least_open : {n : ℕ} {ws inner mid rest : Text} (v : ℤ) → v ≡ least → Opened n ws inner → Next inner (Sign (codes "-")) mid → Next mid PastGreatest rest → ReadsOpen n 220 ws (IntegerConstant v) rest
least_open {n = n} {ws = ws} {inner = inner} {rest = rest} v h o s r = subst (λ x. ReadsOpen n 220 ws (IntegerConstant x) rest) (sym h) (record { inner = inner; before = o; reads = λ l k. least_integer k s r })

pub affirmed_open : {n : ℕ} {ws inner mid rest : Text} (v : ℤ) → Opened n ws inner → Next inner (Sign (codes "+")) mid → Reads of_signs mid (IntegerConstant v) rest → ReadsOpen n 220 ws (IntegerConstant v) rest
affirmed_open {inner = inner} v o s r = record { inner = inner; before = o; reads = λ l k. affirmed k refl s r }

pub negated_float_open : {n : ℕ} {ws inner mid rest : Text} (x y : ℕ) → y ≡ other_sign x → Opened n ws inner → Next inner (Sign (codes "-")) mid → Reads of_signs mid (FloatConstant y) rest → ReadsOpen n 220 ws (FloatConstant x) rest
negated_float_open {mid = mid} {rest = rest} x y h o s r = opposite_open (of_float x) o s (subst (λ z. Reads of_signs mid (FloatConstant z) rest) h r)

pub negated_least_open : {n : ℕ} {ws inner mid rest : Text} (x : ℕ) (v : ℤ) → x ≡ 0x43E0000000000000 → v ≡ least → Opened n ws inner → Next inner (Sign (codes "-")) mid → Reads of_signs mid (IntegerConstant v) rest → ReadsOpen n 220 ws (FloatConstant x) rest
negated_least_open {n = n} {ws = ws} {mid = mid} {rest = rest} x v h g o s r = subst (λ z. ReadsOpen n 220 ws (FloatConstant z) rest) (sym h) (opposite_open of_least o s (subst (λ z. Reads of_signs mid (IntegerConstant z) rest) g r))

pub affirmed_float_open : {n : ℕ} {ws inner mid rest : Text} (x : ℕ) → Opened n ws inner → Next inner (Sign (codes "+")) mid → Reads of_signs mid (FloatConstant x) rest → ReadsOpen n 220 ws (FloatConstant x) rest
affirmed_float_open {inner = inner} x o s r = record { inner = inner; before = o; reads = λ l k. affirmed k refl s r }

pub ruleset operator_steps = (all_closed, behind_open, operate, range_open, contain, contain_not, list_operands, sign_open, chain_open, negated_open, least_open, affirmed_open, negated_float_open, negated_least_open, affirmed_float_open)
