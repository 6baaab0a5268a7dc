use Rattle.std.proofs.Common.{sym}
use Rattle.run_steps.proofs.Forms.{root_of-other}
use Rattle.run_steps.proofs.nodes.variables.root_of.Goals as goal

pub returns-in_default : goal.returns-in_default
returns-in_default c = sym (root_of-other _ c.in_default.not-Variable c.in_default.not-ThisPtr)
