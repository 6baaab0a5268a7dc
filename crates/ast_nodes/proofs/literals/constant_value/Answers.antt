use Rattle.std.proofs.Common.{◌≡◌, false, Option, Some, None, is_some, refl, sym, ◌∙◌}
use Rattle.rhai_base.specs.Value.{Value}
use Rattle.ast_nodes.proofs.literals.constant_value.Goals as goal

none_by : (o : Option Value) → is_some o ≡ false → None ≡ o
none_by None h = refl
none_by (Some v) h = absurd cc

pub returns-in-InterpolatedString : goal.returns-in-InterpolatedString
returns-in-InterpolatedString c = none_by _ (sym c.is_constant.ensures ∙ c.if-not-is_constant.true)
