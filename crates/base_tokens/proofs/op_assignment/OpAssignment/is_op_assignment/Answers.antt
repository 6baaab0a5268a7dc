use Rattle.std.proofs.Common.{rules}
use Rattle.base_tokens.proofs.Applied.{applies, applied_by}
use Rattle.base_tokens.proofs.op_assignment.OpAssignment.is_op_assignment.Goals as goal

pub returns : goal.returns
returns c = search (rules, applies, applied_by)
