use Rattle.std.proofs.Common.{arith}
use Rattle.std.proofs.lemmas.Grind.{common_steps}
use Rattle.rhai_base.specs.Reading.{kinds}
use Rattle.run_host.proofs.Printing.{steps}
use Rattle.run_host.proofs.print.push_calls.Goals as goal

pub loop-call-preserved : goal.loop-call-preserved
loop-call-preserved c = grind (arith, common_steps, kinds, steps)
