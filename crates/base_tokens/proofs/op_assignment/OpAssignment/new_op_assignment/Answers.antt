use Rattle.std.proofs.Common.{rules}
use Rattle.base_tokens.proofs.op_assignment.OpAssignment.new_op_assignment.Goals as goal

pub returns-in-Some : goal.returns-in-Some
returns-in-Some c = search rules
