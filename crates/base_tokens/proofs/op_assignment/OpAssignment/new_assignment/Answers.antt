use Rattle.std.proofs.Common.{rules}
use Rattle.base_tokens.proofs.op_assignment.OpAssignment.new_assignment.Goals as goal

pub returns : goal.returns
returns c = search rules
