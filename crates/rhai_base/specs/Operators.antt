-- The operators and what the built-in ones answer.
use Rattle.std.specs.Prelude.{ℕ, zero, suc, ◌-◌, ◌^◌, Bool, true, false, not, ◌&&◌, ◌||◌, List, [], ◌∷◌, ◌++◌, ℤ, pos, negsuc, ◌+ℤ◌, ◌-ℤ◌, ◌*ℤ◌, codes, ◌==◌, nat_lt, nat_le, int_lt, int_le, int_div, int_rem, bit_and, bit_or, bit_xor, if◌then◌else◌}
use Rattle.std.specs.Char.{encode_utf8}
use Rattle.rhai_base.specs.Value.{Text, Value, UnitV, BoolV, IntV, FloatV, CharV, TextV, RangeV, RangeInclusiveV, same_text, same_int, same_bool, type_name}

pub data Operator : Type 0 where
  Plus : Operator
  Minus : Operator
  Multiply : Operator
  Divide : Operator
  Modulo : Operator
  Power : Operator
  ShiftLeft : Operator
  ShiftRight : Operator
  BitAnd : Operator
  BitOr : Operator
  BitXor : Operator
  EqualTo : Operator
  NotEqualTo : Operator
  Less : Operator
  Greater : Operator
  LessOrEqual : Operator
  GreaterOrEqual : Operator
  UpTo : Operator
  Through : Operator
  Not : Operator
  Negative : Operator
  Positive : Operator

abbrev pub symbol : Operator → Text
symbol Plus = codes "+"
symbol Minus = codes "-"
symbol Multiply = codes "*"
symbol Divide = codes "/"
symbol Modulo = codes "%"
symbol Power = codes "**"
symbol ShiftLeft = codes "<<"
symbol ShiftRight = codes ">>"
symbol BitAnd = codes "&"
symbol BitOr = codes "|"
symbol BitXor = codes "^"
symbol EqualTo = codes "=="
symbol NotEqualTo = codes "!="
symbol Less = codes "<"
symbol Greater = codes ">"
symbol LessOrEqual = codes "<="
symbol GreaterOrEqual = codes ">="
symbol UpTo = codes ".."
symbol Through = codes "..="
symbol Not = codes "!"
symbol Negative = codes "-"
symbol Positive = codes "+"

abbrev pub arity : Operator → ℕ
arity Not = 1
arity Negative = 1
arity Positive = 1
arity _ = 2

abbrev pub is_range : Operator → Bool
is_range UpTo = true
is_range Through = true
is_range _ = false

-- what the table holds for an operator and its operands
pub data Computed : Type 0 where
  NoEntry : Computed
  Is : Value → Computed
  Overflows : Computed

abbrev pub greatest : ℤ
greatest = pos (2 ^ 63 - 1)

abbrev pub fits : ℤ → Bool
fits (pos n) = nat_lt n (2 ^ 63)
fits (negsuc n) = nat_lt n (2 ^ 63)

abbrev pub checked : ℤ → Computed
checked n = if fits n then Is (IntV n) else Overflows

-- 64 bits, as a number without a sign, and back
abbrev pub bits_of : ℤ → ℕ
bits_of (pos n) = n
bits_of (negsuc n) = 2 ^ 64 - suc n

abbrev pub of_bits : ℕ → ℤ
of_bits n = if nat_lt n (2 ^ 63) then pos n else negsuc (2 ^ 64 - 1 - n)

abbrev pub on_bits : (ℕ → ℕ → ℕ) → ℤ → ℤ → Computed
on_bits f a b = Is (IntV (of_bits (f (bits_of a) (bits_of b))))

abbrev pub quotient : ℤ → ℤ → Computed
quotient a (pos zero) = Overflows
quotient a b = checked (int_div a b)

abbrev pub remainder : ℤ → ℤ → Computed
remainder a (pos zero) = Overflows
remainder a b = if fits (int_div a b) then Is (IntV (int_rem a b)) else Overflows

abbrev pub is_bool : Bool → Computed
is_bool b = Is (BoolV b)

abbrev pub on_ints : Operator → ℤ → ℤ → Computed
on_ints Plus a b = checked (a +ℤ b)
on_ints Minus a b = checked (a -ℤ b)
on_ints Multiply a b = checked (a *ℤ b)
on_ints Divide a b = quotient a b
on_ints Modulo a b = remainder a b
on_ints BitAnd a b = on_bits bit_and a b
on_ints BitOr a b = on_bits bit_or a b
on_ints BitXor a b = on_bits bit_xor a b
on_ints EqualTo a b = is_bool (same_int a b)
on_ints NotEqualTo a b = is_bool (not (same_int a b))
on_ints Less a b = is_bool (int_lt a b)
on_ints Greater a b = is_bool (int_lt b a)
on_ints LessOrEqual a b = is_bool (int_le a b)
on_ints GreaterOrEqual a b = is_bool (int_le b a)
on_ints UpTo a b = Is (RangeV a b)
on_ints Through a b = Is (RangeInclusiveV a b)
on_ints _ a b = NoEntry

abbrev pub on_bools : Operator → Bool → Bool → Computed
on_bools EqualTo a b = is_bool (same_bool a b)
on_bools NotEqualTo a b = is_bool (not (same_bool a b))
on_bools BitAnd a b = is_bool (a && b)
on_bools BitOr a b = is_bool (a || b)
on_bools BitXor a b = is_bool (not (same_bool a b))
on_bools _ a b = NoEntry

-- by the first place where they differ, and a beginning before what extends it
abbrev pub text_lt : Text → Text → Bool
text_lt [] [] = false
text_lt [] (d ∷ ds) = true
text_lt (c ∷ cs) [] = false
text_lt (c ∷ cs) (d ∷ ds) = nat_lt c d || (c == d && text_lt cs ds)

abbrev pub on_texts : Operator → Text → Text → Computed
on_texts Plus a b = Is (TextV (a ++ b))
on_texts EqualTo a b = is_bool (same_text a b)
on_texts NotEqualTo a b = is_bool (not (same_text a b))
on_texts Less a b = is_bool (text_lt a b)
on_texts Greater a b = is_bool (text_lt b a)
on_texts LessOrEqual a b = is_bool (not (text_lt b a))
on_texts GreaterOrEqual a b = is_bool (not (text_lt a b))
on_texts _ a b = NoEntry

unfoldable pub on_chars : Operator → ℕ → ℕ → Computed
unfolding encode_utf8
on_chars Plus a b = Is (TextV (encode_utf8 a ++ encode_utf8 b))
on_chars EqualTo a b = is_bool (a == b)
on_chars NotEqualTo a b = is_bool (not (a == b))
on_chars Less a b = is_bool (nat_lt a b)
on_chars Greater a b = is_bool (nat_lt b a)
on_chars LessOrEqual a b = is_bool (nat_le a b)
on_chars GreaterOrEqual a b = is_bool (nat_le b a)
on_chars _ a b = NoEntry

-- two values of different types are not equal
abbrev pub on_different : Operator → Computed
on_different EqualTo = is_bool false
on_different NotEqualTo = is_bool true
on_different _ = NoEntry

abbrev pub on_units : Operator → Computed
on_units EqualTo = is_bool true
on_units NotEqualTo = is_bool false
on_units _ = NoEntry

-- a text beside a char
abbrev pub on_joined : Operator → Text → Computed
on_joined Plus t = Is (TextV t)
on_joined op t = on_different op

-- ranges with one end left out
abbrev pub on_from : Operator → ℤ → Computed
on_from UpTo a = Is (RangeV a greatest)
on_from Through a = Is (RangeInclusiveV a greatest)
on_from op a = on_different op

abbrev pub on_to : Operator → ℤ → Computed
on_to UpTo b = Is (RangeV (pos 0) b)
on_to Through b = Is (RangeInclusiveV (pos 0) b)
on_to op b = on_different op

unfoldable pub binary : Operator → Value → Value → Computed
unfolding encode_utf8
binary op (IntV a) (IntV b) = on_ints op a b
binary op (BoolV a) (BoolV b) = on_bools op a b
binary op (TextV a) (TextV b) = on_texts op a b
binary op (CharV a) (CharV b) = on_chars op a b
binary op (TextV a) (CharV b) = on_joined op (a ++ encode_utf8 b)
binary op (CharV a) (TextV b) = on_joined op (encode_utf8 a ++ b)
binary op UnitV UnitV = on_units op
binary op (IntV a) UnitV = on_from op a
binary op UnitV (IntV b) = on_to op b
-- nothing is computed with a float, nor compared
binary op (FloatV x) w = NoEntry
binary op v (FloatV y) = NoEntry
binary op v w = if same_text (type_name v) (type_name w) then NoEntry else on_different op

abbrev pub unary : Operator → Value → Computed
unary Not (BoolV b) = Is (BoolV (not b))
unary op v = NoEntry

unfoldable pub computed : Operator → List Value → Computed
unfolding binary
computed op (v ∷ []) = unary op v
computed op (v ∷ w ∷ []) = binary op v w
computed op _ = NoEntry
