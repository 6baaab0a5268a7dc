use Rattle.std.proofs.Common.{arith}
use Rattle.std.proofs.lemmas.Grind.{common_steps}
use Rattle.rhai_base.specs.Reading.{kinds}
use Rattle.run_places.proofs.AlongKeys.{along_keys}
use Rattle.run_places.proofs.places.+along.Goals as goal

pub returns-in_default : goal.returns-in_default
returns-in_default t c = grind (arith, common_steps, kinds, along_keys)
