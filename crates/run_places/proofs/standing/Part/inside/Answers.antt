use Rattle.std.proofs.Common.{rules}
use Rattle.rhai_base.specs.Reading.{kinds}
use Rattle.run_places.proofs.AlongKeys.{along_keys}
use Rattle.run_places.proofs.standing.Part.inside.Goals as goal

pub returns-in-Missing : goal.returns-in-Missing
returns-in-Missing c = search (rules, kinds, along_keys)
