use Rattle.std.proofs.Common.{rules}
use Rattle.rhai_base.specs.Reading.{kinds}
use Rattle.demo.proofs.program_host.ProgramHostHost.answer.Goals as goal

pub returns-in-f : goal.returns-in-f
returns-in-f c = search (rules, kinds)
