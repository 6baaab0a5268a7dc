-- The built-in operators' table, at the token of an operator and at what the functions answer.
use Rattle.std.specs.Prelude.{Option, Some, None, Result, Ok, Err, ℤ, pos, Bool, true, false, not, if◌then◌else◌, ◌&&◌, ◌||◌}
use Rattle.std.specs.declared.cmp.Ordering.{Ordering}
use Rattle.std.specs.Ordering.{nat_cmp, is_eq, is_lt, is_le, is_gt, is_ge}
use Rattle.std.specs.Cmp.Lexicographic.{slice_cmp}
use Rattle.rhai_base.specs.declared.dynamic.Dynamic.{Dynamic}
use Rattle.base_tokens.specs.declared.token.Token.{Token}
use Rattle.base_tokens.specs.declared.token.Token.TheVariants as token
use Rattle.base_tokens.specs.declared.error.Fault.{Fault}
use Rattle.base_tokens.specs.declared.error.Fault.TheVariants.{Arithmetic}
use Rattle.rhai_base.specs.Value.{Value, UnitV, BoolV, IntV, FloatV, CharV, TextV, RangeV, RangeInclusiveV, is_unit, same_text, type_name}
use Rattle.rhai_base.specs.Operators.{Operator, Plus, Minus, Multiply, Divide, Modulo, Power, ShiftLeft, ShiftRight, BitAnd, BitOr, BitXor, EqualTo, NotEqualTo, Less, LessOrEqual, Greater, GreaterOrEqual, UpTo, Through, Not, Negative, Positive, greatest, Computed, NoEntry, Is, Overflows, is_bool, on_ints, on_bools, binary, unary}
use Rattle.rhai_base.specs.Reading.{value_of}

-- the operator that a token stands for, if any
abbrev pub operator_of : Token → Option Operator
operator_of token.Plus = Some Plus
operator_of token.UnaryPlus = Some Positive
operator_of token.Minus = Some Minus
operator_of token.UnaryMinus = Some Negative
operator_of token.Multiply = Some Multiply
operator_of token.Divide = Some Divide
operator_of token.Modulo = Some Modulo
operator_of token.PowerOf = Some Power
operator_of token.LeftShift = Some ShiftLeft
operator_of token.RightShift = Some ShiftRight
operator_of token.Ampersand = Some BitAnd
operator_of token.Pipe = Some BitOr
operator_of token.XOr = Some BitXor
operator_of token.EqualsTo = Some EqualTo
operator_of token.NotEqualsTo = Some NotEqualTo
operator_of token.LessThan = Some Less
operator_of token.LessThanEqualsTo = Some LessOrEqual
operator_of token.GreaterThan = Some Greater
operator_of token.GreaterThanEqualsTo = Some GreaterOrEqual
operator_of token.ExclusiveRange = Some UpTo
operator_of token.InclusiveRange = Some Through
operator_of token.Bang = Some Not
operator_of _ = None

-- what an answer says of the table
abbrev pub computed_of : Option (Result Dynamic Fault) → Computed
computed_of None = NoEntry
computed_of (Some (Ok v)) = Is (value_of v)
computed_of (Some (Err Arithmetic)) = Overflows

-- the same where nothing can overflow
abbrev pub answered : Option Dynamic → Computed
answered None = NoEntry
answered (Some v) = Is (value_of v)

-- a table's row for an operator, and none for a token that is no operator
abbrev pub row : (Operator → Computed) → Option Operator → Computed
row table None = NoEntry
row table (Some op) = table op

abbrev pub binary_at : Token → Value → Value → Computed
binary_at op v w = row (λ o. binary o v w) (operator_of op)

abbrev pub unary_at : Token → Value → Computed
unary_at op v = row (λ o. unary o v) (operator_of op)

-- ---- the table in parts

-- what `==` and `!=` say of operands that are equal or not
abbrev pub equality_of : Operator → Bool → Computed
equality_of EqualTo e = is_bool e
equality_of NotEqualTo e = is_bool (not e)
equality_of _ e = NoEntry

-- what comparisons say of operands that stand in an order
abbrev pub compared : Operator → Ordering → Computed
compared Less o = is_bool (is_lt o)
compared LessOrEqual o = is_bool (is_le o)
compared Greater o = is_bool (is_gt o)
compared GreaterOrEqual o = is_bool (is_ge o)
compared op o = equality_of op (is_eq o)

abbrev pub number_or_fault : Option ℤ → Computed
number_or_fault None = Overflows
number_or_fault (Some n) = Is (IntV n)

abbrev pub is_text : Value → Bool
is_text (TextV t) = true
is_text (CharV c) = true
is_text _ = false

abbrev pub is_float : Value → Bool
is_float (FloatV x) = true
is_float _ = false

abbrev pub has_float : Value → Value → Bool
has_float v w = is_float v || is_float w

-- the operator joins these values as texts
abbrev pub joins : Token → Value → Value → Bool
joins token.Plus v w = is_text v && is_text w
joins _ v w = false

-- the operator of a token, but for those that make ranges
abbrev pub plain_operator : Token → Option Operator
plain_operator token.ExclusiveRange = None
plain_operator token.InclusiveRange = None
plain_operator t = operator_of t

-- all entries but the ranges and those that join texts and characters, for values that are no floats
abbrev pub unjoined : Operator → Value → Value → Computed
unjoined op (IntV a) (IntV b) = on_ints op a b
unjoined op (BoolV a) (BoolV b) = on_bools op a b
unjoined op (TextV a) (TextV b) = compared op (slice_cmp nat_cmp a b)
unjoined op (CharV a) (CharV b) = compared op (nat_cmp a b)
unjoined op UnitV UnitV = equality_of op true
unjoined op v w = if same_text (type_name v) (type_name w) then NoEntry else equality_of op false

-- ---- ranges

-- the operator of ranges with their end, or without it
abbrev pub range_operator : Bool → Operator
range_operator true = Through
range_operator false = UpTo

abbrev pub range_value : Bool → ℤ → ℤ → Value
range_value true a b = RangeInclusiveV a b
range_value false a b = RangeV a b

-- an end of a range, where unit stands for one that is left out
abbrev pub end_or : ℤ → Value → Option ℤ
end_or missing UnitV = Some missing
end_or missing (IntV n) = Some n
end_or missing _ = None

abbrev pub between : Bool → Option ℤ → Option ℤ → Computed
between inclusive (Some a) (Some b) = Is (range_value inclusive a b)
between inclusive _ _ = NoEntry

abbrev pub range_between : Bool → Value → Value → Computed
range_between inclusive v w = if is_unit v && is_unit w then NoEntry else between inclusive (end_or (pos 0) v) (end_or greatest w)
