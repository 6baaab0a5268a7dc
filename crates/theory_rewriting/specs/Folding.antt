-- What operator calls over constants answer without asking the host.
use Rattle.std.specs.Prelude.{List, Option, Some, None}
use Rattle.rhai_base.specs.Value.{Value}
use Rattle.theory_meaning.specs.Engine.{Engine, built_in}
use Rattle.theory_meaning.specs.Constants.{computed_value, constant_values}
use Rattle.theory_meaning.specs.Tree.{CallToken, OfOperator, Callee, Exprs}

abbrev pub folded_values : Engine → CallToken → Option (List Value) → Option Value
folded_values engine (OfOperator op) (Some vs) = computed_value (built_in engine op vs)
folded_values engine _ vs = None

-- the value of an operator call whose arguments are constant, where it is built in and answers one
abbrev pub folded : Engine → Callee → Exprs → Option Value
folded engine c es = folded_values engine c.token (constant_values es)
