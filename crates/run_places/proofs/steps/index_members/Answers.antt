use Rattle.std.proofs.Common.{rules}
use Rattle.rhai_base.specs.Reading.{kinds}
use Rattle.run_places.proofs.Indexes.{indexes}
use Rattle.run_places.proofs.steps.index_members.Goals as goal

pub returns-in-Ok : goal.returns-in-Ok
returns-in-Ok c = search (rules, kinds, indexes)
