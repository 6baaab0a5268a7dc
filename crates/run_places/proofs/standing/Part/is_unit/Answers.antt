use Rattle.std.proofs.Common.{rules}
use Rattle.rhai_base.specs.Reading.{kinds}
use Rattle.run_places.proofs.Parts.{parts}
use Rattle.run_places.proofs.standing.Part.is_unit.Goals as goal

pub returns-in-Missing : goal.returns-in-Missing
returns-in-Missing c = search (rules, kinds, parts)
