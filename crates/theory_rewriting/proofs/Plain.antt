-- No operator answers a pointer to a function, or unit.
use Rattle.std.proofs.Common.{◌≡◌, ℤ, Bool, true, false, List, [], ◌∷◌, ◌++◌, Option, Some, None, if◌then◌else◌, refl, subst, pos, suc, zero, ℕ}
use Rattle.std.specs.Prelude.{negsuc, int_div, int_rem, ◌+ℤ◌, ◌-ℤ◌, ◌*ℤ◌}
use Rattle.std.specs.Char.{encode_utf8}
use Rattle.rhai_base.specs.Value.{Text, Value, UnitV, BoolV, IntV, FloatV, CharV, TextV, PointerV, same_text, type_name}
use Rattle.rhai_base.specs.Operators as table
use Rattle.rhai_base.specs.Operators.{Operator, Computed, NoEntry, Is, Overflows, fits, quotient, remainder, on_ints, on_bools, on_texts, on_chars, on_units, on_joined, on_from, on_to, on_different, binary, unary, computed}
use Rattle.theory_meaning.specs.Engine.{Engine, is_open, built_in}
use Rattle.theory_meaning.specs.Constants.{computed_value, constant_values}
use Rattle.theory_meaning.specs.Tree.{CallToken, NoToken, OfOperator, OfOther, Callee, Exprs}
use Rattle.theory_rewriting.specs.Folding.{folded_values, folded}

-- neither a pointer nor unit
abbrev pub is_plain_value : Value → Bool
is_plain_value (PointerV f vs) = false
is_plain_value UnitV = false
is_plain_value _ = true

abbrev gives_plain : Computed → Bool
gives_plain NoEntry = true
gives_plain Overflows = true
gives_plain (Is v) = is_plain_value v

checked_plain : (b : Bool) (n : ℤ) → gives_plain (if b then Is (IntV n) else Overflows) ≡ true
checked_plain true n = refl
checked_plain false n = refl

quotient_plain : (a b : ℤ) → gives_plain (quotient a b) ≡ true
quotient_plain a (pos zero) = refl
quotient_plain a (pos (suc n)) = checked_plain (fits (int_div a (pos (suc n)))) (int_div a (pos (suc n)))
quotient_plain a (negsuc n) = checked_plain (fits (int_div a (negsuc n))) (int_div a (negsuc n))

remainder_plain : (a b : ℤ) → gives_plain (remainder a b) ≡ true
remainder_plain a (pos zero) = refl
remainder_plain a (pos (suc n)) = checked_plain (fits (int_div a (pos (suc n)))) (int_rem a (pos (suc n)))
remainder_plain a (negsuc n) = checked_plain (fits (int_div a (negsuc n))) (int_rem a (negsuc n))

ints_plain : (op : Operator) (a b : ℤ) → gives_plain (on_ints op a b) ≡ true
ints_plain table.Plus a b = checked_plain (fits (a +ℤ b)) (a +ℤ b)
ints_plain table.Minus a b = checked_plain (fits (a -ℤ b)) (a -ℤ b)
ints_plain table.Multiply a b = checked_plain (fits (a *ℤ b)) (a *ℤ b)
ints_plain table.Divide a b = quotient_plain a b
ints_plain table.Modulo a b = remainder_plain a b
ints_plain _ a b = refl

bools_plain : (op : Operator) (a b : Bool) → gives_plain (on_bools op a b) ≡ true
bools_plain table.Plus a b = refl
bools_plain _ a b = refl

texts_plain : (op : Operator) (a b : Text) → gives_plain (on_texts op a b) ≡ true
texts_plain table.Plus a b = refl
texts_plain _ a b = refl

chars_plain : (op : Operator) (a b : ℕ) → gives_plain (on_chars op a b) ≡ true
unfolding on_chars
chars_plain table.Plus a b = refl
chars_plain _ a b = refl

different_plain : (op : Operator) → gives_plain (on_different op) ≡ true
different_plain table.Plus = refl
different_plain _ = refl

joined_plain : (op : Operator) (t : Text) → gives_plain (on_joined op t) ≡ true
joined_plain table.Plus t = refl
joined_plain _ t = refl

units_plain : (op : Operator) → gives_plain (on_units op) ≡ true
units_plain table.Plus = refl
units_plain _ = refl

from_plain : (op : Operator) (a : ℤ) → gives_plain (on_from op a) ≡ true
from_plain table.UpTo a = refl
from_plain _ a = refl

to_plain : (op : Operator) (b : ℤ) → gives_plain (on_to op b) ≡ true
to_plain table.UpTo b = refl
to_plain _ b = refl

unless_plain : (b : Bool) (op : Operator) → gives_plain (if b then NoEntry else on_different op) ≡ true
unless_plain true op = refl
unless_plain false op = different_plain op

binary_plain : (op : Operator) (v w : Value) → gives_plain (binary op v w) ≡ true
unfolding binary
binary_plain op (IntV a) (IntV b) = ints_plain op a b
binary_plain op (BoolV a) (BoolV b) = bools_plain op a b
binary_plain op (TextV a) (TextV b) = texts_plain op a b
binary_plain op (CharV a) (CharV b) = chars_plain op a b
binary_plain op (TextV a) (CharV b) = joined_plain op (a ++ encode_utf8 b)
binary_plain op (CharV a) (TextV b) = joined_plain op (encode_utf8 a ++ b)
binary_plain op UnitV UnitV = units_plain op
binary_plain op (IntV a) UnitV = from_plain op a
binary_plain op UnitV (IntV b) = to_plain op b
binary_plain op (FloatV x) w = refl
binary_plain op v (FloatV y) = refl
binary_plain op v w = unless_plain (same_text (type_name v) (type_name w)) op

unary_plain : (op : Operator) (v : Value) → gives_plain (unary op v) ≡ true
unary_plain table.Not (BoolV b) = refl
unary_plain _ v = refl

computed_plain : (op : Operator) (vs : List Value) → gives_plain (computed op vs) ≡ true
unfolding computed
computed_plain op [] = refl
computed_plain op (v ∷ []) = unary_plain op v
computed_plain op (v ∷ w ∷ []) = binary_plain op v w
computed_plain op (v ∷ w ∷ x ∷ vs) = refl

open_plain : (b : Bool) (c : Computed) → gives_plain c ≡ true → gives_plain (if b then c else NoEntry) ≡ true
open_plain true c h = h
open_plain false c h = refl

value_plain : (c : Computed) (v : Value) → gives_plain c ≡ true → computed_value c ≡ Some v → is_plain_value v ≡ true
value_plain NoEntry v p h = absurd cc
value_plain Overflows v p h = absurd cc
value_plain (Is u) v p h = let z : Some u ≡ Some v = h in let e : u ≡ v = cc in subst (λ x. is_plain_value x ≡ true) e p

values_plain : (engine : Engine) (m : CallToken) (o : Option (List Value)) (v : Value) → folded_values engine m o ≡ Some v → is_plain_value v ≡ true
values_plain engine NoToken o v h = absurd cc
values_plain engine OfOther o v h = absurd cc
values_plain engine (OfOperator op) None v h = absurd cc
values_plain engine (OfOperator op) (Some vs) v h = value_plain (built_in engine op vs) v (open_plain (is_open engine op vs) (computed op vs) (computed_plain op vs)) h

-- so a call that folds gives neither
pub folded_plain : (engine : Engine) (c : Callee) (es : Exprs) (v : Value) → folded engine c es ≡ Some v → is_plain_value v ≡ true
folded_plain engine c es v h = values_plain engine c.token (constant_values es) v h
