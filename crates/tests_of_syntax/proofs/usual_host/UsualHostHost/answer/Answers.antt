use Rattle.std.proofs.Common.{rules}
use Rattle.rhai_base.specs.Reading.{kinds}
use Rattle.tests_of_syntax.proofs.usual_host.UsualHostHost.answer.Goals as goal

pub returns-in-len : goal.returns-in-len
returns-in-len c = search (rules, kinds)

pub returns-in-contains : goal.returns-in-contains
returns-in-contains c = search (rules, kinds)

pub returns-in-text : goal.returns-in-text
returns-in-text c = search (rules, kinds)
