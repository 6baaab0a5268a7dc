use Rattle.std.proofs.Common.{ap, sym, ◌∙◌}
use Rattle.std.specs.Option.{option_map}
use Rattle.rhai_base.specs.Reading.{value_of-Unit}
use Rattle.run_places.specs.Reading.{or_unit, part_value}
use Rattle.run_steps.proofs.steps.placing.copied_part.Goals as goal

pub returns-in-None : goal.returns-in-None
returns-in-None c = value_of-Unit ∙ ap or_unit (sym (ap (option_map part_value) c.in-None.is) ∙ c.inside.ensures)
