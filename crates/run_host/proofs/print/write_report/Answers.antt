use Rattle.std.proofs.Common.{arith}
use Rattle.std.proofs.lemmas.Grind.{common_steps}
use Rattle.rhai_base.specs.Reading.{kinds}
use Rattle.run_host.proofs.Printing.{steps}
use Rattle.run_host.proofs.print.write_report.Goals as goal

pub returns : goal.returns
returns c = grind (arith, common_steps, kinds, steps)
