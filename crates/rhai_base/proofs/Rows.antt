-- Rows of the operators' table.
use Rattle.std.proofs.Common.{◌≡◌, ◌≢◌, ℕ, ℤ, [], ◌∷◌, ◌++◌, Bool, true, false, not, ◌&&◌, ◌||◌, ◌==◌, Option, Some, None, nat_lt, nat_le, nat_cmp, refl, sym, ap, ◌∙◌, arith, if◌then◌else◌}
use Rattle.std.specs.declared.cmp.Ordering.{Ordering}
use Rattle.std.specs.declared.cmp.Ordering.TheVariants as order
use Rattle.std.specs.Ordering.{is_eq, is_lt, is_le, is_gt, is_ge, ordering_then, ordering_reverse}
use Rattle.std.specs.Cmp.Lexicographic.{slice_cmp}
use Rattle.std.specs.Char.{encode_utf8}
use Rattle.std.proofs.lemmas.Bool.Decides.{nat_tests}
use Rattle.std.proofs.lemmas.Cmp.{nat_list_cmp_total}
use Rattle.std.proofs.lemmas.Map.Text.{is_eq-slice_cmp}
use Rattle.base_tokens.specs.declared.token.Token.{Token}
use Rattle.base_tokens.specs.declared.token.Token.TheVariants as token
use Rattle.rhai_base.specs.Value.{Text, Value, UnitV, BoolV, IntV, FloatV, CharV, TextV, same_text, type_name}
use Rattle.rhai_base.specs.Operators as table
use Rattle.rhai_base.specs.Operators.{Operator, NoEntry, is_bool, binary, on_texts, on_chars, text_lt, is_range}
use Rattle.base_tokens.specs.Tokens.{makes_range}
use Rattle.rhai_base.specs.Builtin.{operator_of, plain_operator, row, binary_at, equality_of, compared, unjoined, is_float, is_text, joins}

-- ---- texts and characters in order

first_decides : (c d : ℕ) (o : Ordering) → (nat_lt c d || (c == d && is_lt o)) ≡ is_lt (ordering_then (nat_cmp c d) o)
first_decides c d o = grind (arith, nat_tests)

text_lt_is : (a b : Text) → text_lt a b ≡ is_lt (slice_cmp nat_cmp a b)
text_lt_is [] [] = refl
text_lt_is [] (d ∷ ds) = refl
text_lt_is (c ∷ cs) [] = refl
text_lt_is (c ∷ cs) (d ∷ ds) = rw (text_lt_is cs ds) (first_decides c d (slice_cmp nat_cmp cs ds))

turned : (a b : Text) → slice_cmp nat_cmp a b ≡ ordering_reverse (slice_cmp nat_cmp b a)
turned = nat_list_cmp_total.antisymm

is_gt_turned : (o : Ordering) → is_lt o ≡ is_gt (ordering_reverse o)
is_gt_turned order.Less = refl
is_gt_turned order.Equal = refl
is_gt_turned order.Greater = refl

text_gt_is : (a b : Text) → text_lt b a ≡ is_gt (slice_cmp nat_cmp a b)
text_gt_is a b = text_lt_is b a ∙ is_gt_turned (slice_cmp nat_cmp b a) ∙ ap is_gt (sym (turned a b))

not_gt : (o : Ordering) → not (is_gt o) ≡ is_le o
not_gt order.Less = refl
not_gt order.Equal = refl
not_gt order.Greater = refl

not_lt : (o : Ordering) → not (is_lt o) ≡ is_ge o
not_lt order.Less = refl
not_lt order.Equal = refl
not_lt order.Greater = refl

-- ---- parts of the table

texts_compared : (op : Operator) (a b : Text) → op ≢ table.Plus → on_texts op a b ≡ compared op (slice_cmp nat_cmp a b)
texts_compared table.Plus a b h = absurd (h refl)
texts_compared table.EqualTo a b h = ap is_bool (sym (is_eq-slice_cmp a b))
texts_compared table.NotEqualTo a b h = ap (λ e. is_bool (not e)) (sym (is_eq-slice_cmp a b))
texts_compared table.Less a b h = ap is_bool (text_lt_is a b)
texts_compared table.Greater a b h = ap is_bool (text_gt_is a b)
texts_compared table.LessOrEqual a b h = ap is_bool (ap not (text_gt_is a b) ∙ not_gt _)
texts_compared table.GreaterOrEqual a b h = ap is_bool (ap not (text_lt_is a b) ∙ not_lt _)
texts_compared _ a b h = refl

char_eq : (a b : ℕ) → (a == b) ≡ is_eq (nat_cmp a b)
char_eq a b = grind (arith, nat_tests)

char_lt : (a b : ℕ) → nat_lt a b ≡ is_lt (nat_cmp a b)
char_lt a b = grind (arith, nat_tests)

char_gt : (a b : ℕ) → nat_lt b a ≡ is_gt (nat_cmp a b)
char_gt a b = grind (arith, nat_tests)

char_le : (a b : ℕ) → nat_le a b ≡ is_le (nat_cmp a b)
char_le a b = grind (arith, nat_tests)

char_ge : (a b : ℕ) → nat_le b a ≡ is_ge (nat_cmp a b)
char_ge a b = grind (arith, nat_tests)

chars_compared : (op : Operator) (a b : ℕ) → op ≢ table.Plus → on_chars op a b ≡ compared op (nat_cmp a b)
unfolding on_chars
chars_compared table.Plus a b h = absurd (h refl)
chars_compared table.EqualTo a b h = ap is_bool (char_eq a b)
chars_compared table.NotEqualTo a b h = ap (λ e. is_bool (not e)) (char_eq a b)
chars_compared table.Less a b h = ap is_bool (char_lt a b)
chars_compared table.Greater a b h = ap is_bool (char_gt a b)
chars_compared table.LessOrEqual a b h = ap is_bool (char_le a b)
chars_compared table.GreaterOrEqual a b h = ap is_bool (char_ge a b)
chars_compared _ a b h = refl

different : (op : Operator) → table.on_different op ≡ equality_of op false
different table.EqualTo = refl
different table.NotEqualTo = refl
different _ = refl

units : (op : Operator) → table.on_units op ≡ equality_of op true
units table.EqualTo = refl
units table.NotEqualTo = refl
units _ = refl

joined : (op : Operator) (t : Text) → op ≢ table.Plus → table.on_joined op t ≡ equality_of op false
joined table.Plus t h = absurd (h refl)
joined table.EqualTo t h = refl
joined table.NotEqualTo t h = refl
joined _ t h = refl

open_end : (op : Operator) (n : ℤ) → is_range op ≡ false → table.on_from op n ≡ equality_of op false
open_end table.UpTo n h = absurd (cc)
open_end table.Through n h = absurd (cc)
open_end table.EqualTo n h = refl
open_end table.NotEqualTo n h = refl
open_end _ n h = refl

open_start : (op : Operator) (n : ℤ) → is_range op ≡ false → table.on_to op n ≡ equality_of op false
open_start table.UpTo n h = absurd (cc)
open_start table.Through n h = absurd (cc)
open_start table.EqualTo n h = refl
open_start table.NotEqualTo n h = refl
open_start _ n h = refl

-- ---- the table

-- the operator does not join these values
abbrev Unjoined : Operator → Value → Value → Type 0
Unjoined op v w = is_text v ≡ true → is_text w ≡ true → op ≢ table.Plus

unjoined_is : (op : Operator) (v w : Value) → is_float v ≡ false → is_float w ≡ false → is_range op ≡ false → Unjoined op v w → unjoined op v w ≡ binary op v w
unfolding binary
unjoined_is op (IntV a) (IntV b) f g r h = refl
unjoined_is op (BoolV a) (BoolV b) f g r h = refl
unjoined_is op (TextV a) (TextV b) f g r h = sym (texts_compared op a b (h refl refl))
unjoined_is op (CharV a) (CharV b) f g r h = sym (chars_compared op a b (h refl refl))
unjoined_is op (TextV a) (CharV b) f g r h = sym (joined op (a ++ encode_utf8 b) (h refl refl))
unjoined_is op (CharV a) (TextV b) f g r h = sym (joined op (encode_utf8 a ++ b) (h refl refl))
unjoined_is op UnitV UnitV f g r h = sym (units op)
unjoined_is op (IntV a) UnitV f g r h = sym (open_end op a r)
unjoined_is op UnitV (IntV b) f g r h = sym (open_start op b r)
unjoined_is op (FloatV x) w f g r h = absurd cc
unjoined_is op v (FloatV y) f g r h = absurd cc
unjoined_is op v w f g r h = ap (λ d. if same_text (type_name v) (type_name w) then NoEntry else d) (sym (different op))

apart : (a b : Bool) → (a && b) ≡ false → a ≡ true → b ≡ true → ⊥
apart a b e p q = grind arith

-- neither `+` nor an operator that makes a range
abbrev is_other : Operator → Bool
is_other table.Plus = false
is_other op = not (is_range op)

abbrev is_other_or_none : Option Operator → Bool
is_other_or_none None = true
is_other_or_none (Some op) = is_other op

other_is_no_range : (op : Operator) → is_other op ≡ true → is_range op ≡ false
other_is_no_range table.UpTo h = absurd (cc)
other_is_no_range table.Through h = absurd (cc)
other_is_no_range _ h = refl

other_is_no_plus : (op : Operator) → is_other op ≡ true → op ≢ table.Plus
other_is_no_plus op h e = let f : false ≡ true = ap is_other (sym e) ∙ h in absurd (cc)

row_is : (o : Option Operator) (v w : Value) → is_float v ≡ false → is_float w ≡ false → is_other_or_none o ≡ true → row (λ op. unjoined op v w) o ≡ row (λ op. binary op v w) o
row_is None v w f g h = refl
row_is (Some op) v w f g h = unjoined_is op v w f g (other_is_no_range op h) (λ p q. other_is_no_plus op h)

-- a token that makes no range
pub no_range : (op : Token) → (op ≡ token.ExclusiveRange → ⊥) → (op ≡ token.InclusiveRange → ⊥) → makes_range op ≡ false
no_range token.ExclusiveRange f g = absurd (f refl)
no_range token.InclusiveRange f g = absurd (g refl)
no_range _ f g = refl

-- the rows of a token for values that it neither joins nor makes a range of
pub unjoined_row : (op : Token) (v w : Value) → is_float v ≡ false → is_float w ≡ false → joins op v w ≡ false → makes_range op ≡ false → row (λ o. unjoined o v w) (plain_operator op) ≡ binary_at op v w
unjoined_row token.Plus v w f g h r = unjoined_is table.Plus v w f g refl (λ p q e. apart (is_text v) (is_text w) h p q)
unjoined_row token.ExclusiveRange v w f g h r = absurd (cc)
unjoined_row token.InclusiveRange v w f g h r = absurd (cc)
unjoined_row t v w f g h r = row_is (operator_of t) v w f g refl
