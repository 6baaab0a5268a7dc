use Rattle.std.proofs.Common.{arith}
use Rattle.std.proofs.lemmas.Grind.{common_steps}
use Rattle.ast_types.specs.Reading.{shapes}
use Rattle.ast_types.proofs.ItemLists.{steps}
use Rattle.notation_print.proofs.scripts.write_lines.Goals as goal

pub loop-line-preserved : goal.loop-line-preserved
loop-line-preserved c = grind (arith, common_steps, shapes, steps)
