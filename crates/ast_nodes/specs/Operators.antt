-- The operators of tokens.
use Rattle.std.specs.Prelude.{ℕ, Option, option_map}
use Rattle.base_tokens.specs.declared.token.Token.{Token}
use Rattle.rhai_base.specs.Operators.{arity}
use Rattle.rhai_base.specs.Builtin.{operator_of}

-- how many operands the operator has; none for a token that is no operator
abbrev pub token_arity : Token → Option ℕ
token_arity t = option_map arity (operator_of t)
