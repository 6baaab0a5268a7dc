use Rattle.run_steps.proofs.Forms.{stands_for_applied}
use Rattle.run_steps.proofs.nodes.operators.assigning_operator.Goals as goal

pub returns : goal.returns
returns c = stands_for_applied _ _ _ c.in_ok-token.ensures.applies c.in_ok-token.ensures.operator
