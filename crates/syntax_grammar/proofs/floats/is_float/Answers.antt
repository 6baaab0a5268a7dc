use Rattle.std.proofs.Common.{◌∙◌}
use Rattle.syntax_grammar.proofs.FloatSteps.{float_as}
use Rattle.syntax_grammar.proofs.floats.is_float.Goals as goal

pub returns-in-Ok : goal.returns-in-Ok
returns-in-Ok c = λ h. float_as c.args.bits (c.as_slice.ensures.value ∙ c.in-Ok.ensures) (c.is_value.ensures h)
