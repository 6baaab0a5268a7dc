-- Rows of the operators' definitions, computed from them alone.
use Rattle.std.specs.Prelude.{◌≡◌, true, false, List, [], ◌∷◌, map, replicate, length, Some, pos, negsuc, ◌^◌, ◌-◌, refl}
use Rattle.base_tokens.specs.Names.{is_among, symbols}
use Rattle.base_tokens.specs.declared.token.Token.{Token}
use Rattle.base_tokens.specs.declared.token.Token.TheVariants as token
use Rattle.base_tokens.specs.Symbols.{token_text}
use Rattle.base_tokens.specs.Tokens.{makes_range}
use Rattle.rhai_base.specs.Value.{UnitV, BoolV, IntV, RangeV, RangeInclusiveV}
use Rattle.rhai_base.specs.Builtin.{operator_of}
use Rattle.rhai_base.specs.Operators.{Operator, Plus, Minus, Multiply, Divide, Modulo, Power, ShiftLeft, ShiftRight, BitAnd, BitOr, BitXor, EqualTo, NotEqualTo, Less, Greater, LessOrEqual, GreaterOrEqual, UpTo, Through, Not, Negative, Positive, symbol, arity, is_range, NoEntry, Is, Overflows, greatest, binary, computed}

-- ---- an operator's token, symbol and number of operands

abbrev of_two : List Operator
of_two = Plus ∷ Minus ∷ Multiply ∷ Divide ∷ Modulo ∷ Power ∷ ShiftLeft ∷ ShiftRight ∷ BitAnd ∷ BitOr ∷ BitXor ∷ EqualTo ∷ NotEqualTo ∷ Less ∷ Greater ∷ LessOrEqual ∷ GreaterOrEqual ∷ UpTo ∷ Through ∷ []

abbrev of_one : List Operator
of_one = Not ∷ Negative ∷ Positive ∷ []

abbrev tokens_of_two : List Token
tokens_of_two = token.Plus ∷ token.Minus ∷ token.Multiply ∷ token.Divide ∷ token.Modulo ∷ token.PowerOf ∷ token.LeftShift ∷ token.RightShift ∷ token.Ampersand ∷ token.Pipe ∷ token.XOr ∷ token.EqualsTo ∷ token.NotEqualsTo ∷ token.LessThan ∷ token.GreaterThan ∷ token.LessThanEqualsTo ∷ token.GreaterThanEqualsTo ∷ token.ExclusiveRange ∷ token.InclusiveRange ∷ []

abbrev tokens_of_one : List Token
tokens_of_one = token.Bang ∷ token.UnaryMinus ∷ token.UnaryPlus ∷ []

two_operands : map arity of_two ≡ replicate 19 2
two_operands = refl

one_operand : map arity of_one ≡ replicate 3 1
one_operand = refl

tokens_for_two : map operator_of tokens_of_two ≡ map Some of_two
tokens_for_two = refl

tokens_for_one : map operator_of tokens_of_one ≡ map Some of_one
tokens_for_one = refl

-- an operator's symbol is its token's text
written_as_two : map symbol of_two ≡ map token_text tokens_of_two
written_as_two = refl

written_as_one : map symbol of_one ≡ map token_text tokens_of_one
written_as_one = refl

-- an operator's symbol is a name of operators, and there are no others: `-` and `+` are two operators each
names_of_operators : map (λ op. is_among (symbol op) symbols) of_two ≡ replicate 19 true
names_of_operators = refl

no_other_names : (is_among (symbol Not) symbols ≡ true) × (length symbols ≡ 20)
no_other_names = (refl, refl)

-- `..` and `..=` alone make ranges
two_ranges : map is_range of_two ≡ map makes_range tokens_of_two
two_ranges = refl

range_symbols : (is_range UpTo ≡ true) × (is_range Through ≡ true) × (is_range Plus ≡ false)
range_symbols = (refl, refl, refl)

-- ---- what the table answers

toward_zero : computed Divide (IntV (negsuc 6) ∷ IntV (pos 2) ∷ []) ≡ Is (IntV (negsuc 2))
unfolding computed binary
toward_zero = refl

remainder_of_the_first : computed Modulo (IntV (negsuc 6) ∷ IntV (pos 2) ∷ []) ≡ Is (IntV (negsuc 0))
unfolding computed binary
remainder_of_the_first = refl

past_the_greatest : computed Plus (IntV greatest ∷ IntV (pos 1) ∷ []) ≡ Overflows
unfolding computed binary
past_the_greatest = refl

least_by_minus_one : computed Divide (IntV (negsuc (2 ^ 63 - 1)) ∷ IntV (negsuc 0) ∷ []) ≡ Overflows
unfolding computed binary
least_by_minus_one = refl

by_zero : computed Modulo (IntV (pos 1) ∷ IntV (pos 0) ∷ []) ≡ Overflows
unfolding computed binary
by_zero = refl

bits_with_sign : computed BitAnd (IntV (negsuc 3) ∷ IntV (pos 7) ∷ []) ≡ Is (IntV (pos 4))
unfolding computed binary
bits_with_sign = refl

left_out : computed UpTo (IntV (pos 1) ∷ UnitV ∷ []) ≡ Is (RangeV (pos 1) greatest)
unfolding computed binary
left_out = refl

started_at_zero : computed Through (UnitV ∷ IntV (pos 5) ∷ []) ≡ Is (RangeInclusiveV (pos 0) (pos 5))
unfolding computed binary
started_at_zero = refl

asked_of_the_host : computed Power (IntV (pos 2) ∷ IntV (pos 3) ∷ []) ≡ NoEntry
unfolding computed binary
asked_of_the_host = refl

one_alone : computed Not (BoolV true ∷ []) ≡ Is (BoolV false)
unfolding computed
one_alone = refl

no_three : computed Plus (IntV (pos 1) ∷ IntV (pos 1) ∷ IntV (pos 1) ∷ []) ≡ NoEntry
unfolding computed
no_three = refl
