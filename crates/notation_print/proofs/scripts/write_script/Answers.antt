use Rattle.std.proofs.Common.{arith}
use Rattle.std.proofs.lemmas.Grind.{common_steps}
use Rattle.ast_types.specs.Reading.{shapes}
use Rattle.ast_types.proofs.ItemLists.{steps}
use Rattle.notation_print.proofs.scripts.write_script.Goals as goal

pub loop-function-preserved : goal.loop-function-preserved
loop-function-preserved c = grind (arith, common_steps, shapes, steps)
