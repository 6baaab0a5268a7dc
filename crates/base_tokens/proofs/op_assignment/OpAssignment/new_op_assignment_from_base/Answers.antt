use Rattle.std.proofs.Common.{rules}
use Rattle.base_tokens.proofs.Applied.{applies, applied_by}
use Rattle.base_tokens.proofs.op_assignment.OpAssignment.new_op_assignment_from_base.Goals as goal

pub returns-then-not-has_op_assignment : goal.returns-then-not-has_op_assignment
returns-then-not-has_op_assignment c = search (rules, applies, applied_by)
