use Rattle.std.proofs.Common.{sym}
use Rattle.run_steps.proofs.Forms.{catch_name-other}
use Rattle.run_steps.proofs.nodes.catching.catch_name.Goals as goal

pub returns-in_default : goal.returns-in_default
returns-in_default c = sym (catch_name-other _ c.in_default.not-Unit c.in_default.not-Variable)
