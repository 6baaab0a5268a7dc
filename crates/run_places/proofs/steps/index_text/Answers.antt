use Rattle.std.proofs.Common.{rules}
use Rattle.rhai_base.specs.Reading.{kinds}
use Rattle.run_places.proofs.Indexes.{indexes}
use Rattle.run_places.proofs.steps.index_text.Goals as goal

pub returns-in-Some : goal.returns-in-Some
returns-in-Some c = search (rules, kinds, indexes)

pub returns-in-Int : goal.returns-in-Int
returns-in-Int c = search (rules, kinds, indexes)

pub returns : goal.returns
returns c = search (rules, kinds, indexes)
