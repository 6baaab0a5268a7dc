-- What the operator of a token makes of two ends of a range.
use Rattle.std.specs.Prelude.{Option, Some, None}
use Rattle.base_tokens.specs.declared.token.Token.{Token}
use Rattle.rhai_base.specs.Builtin.{binary_at}
use Rattle.rhai_base.specs.Value.{Value}
use Rattle.theory_meaning.specs.Constants.{computed_value}

abbrev pub range_made : Token → Option Value → Option Value → Option Value
range_made op (Some v) (Some w) = computed_value (binary_at op v w)
range_made op _ _ = None
