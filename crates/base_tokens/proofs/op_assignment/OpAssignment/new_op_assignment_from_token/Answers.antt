use Rattle.std.proofs.Common.{rules}
use Rattle.base_tokens.proofs.Applied.{written_form}
use Rattle.base_tokens.proofs.op_assignment.OpAssignment.new_op_assignment_from_token.Goals as goal

pub returns-clause-as_text : goal.returns-clause-as_text
returns-clause-as_text c = written_form c.args.op_assign c.requires

pub returns-clause-made : goal.returns-clause-made
returns-clause-made c = search rules
