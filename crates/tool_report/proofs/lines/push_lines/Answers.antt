use Rattle.std.proofs.Common.{arith}
use Rattle.std.proofs.lemmas.Grind.{common_steps}
use Rattle.rhai_base.specs.Reading.{kinds}
use Rattle.tool_report.proofs.Printing.{steps}
use Rattle.tool_report.proofs.lines.push_lines.Goals as goal

pub returns : goal.returns
returns c = grind (arith, common_steps, kinds, steps)
