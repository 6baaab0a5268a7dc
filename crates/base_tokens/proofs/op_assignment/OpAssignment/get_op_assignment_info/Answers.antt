use Rattle.std.proofs.Common.{rules}
use Rattle.base_tokens.proofs.op_assignment.OpAssignment.get_op_assignment_info.Goals as goal

pub returns-clause-straight : goal.returns-clause-straight
returns-clause-straight c = search rules

pub returns-clause-by_operator : goal.returns-clause-by_operator
returns-clause-by_operator c = search rules

pub returns-clause-form : goal.returns-clause-form
returns-clause-form c = search rules

pub returns-clause-form_text : goal.returns-clause-form_text
returns-clause-form_text c = search rules

pub returns-clause-operator : goal.returns-clause-operator
returns-clause-operator c = search rules

pub returns-clause-operator_text : goal.returns-clause-operator_text
returns-clause-operator_text c = search rules

pub returns-clause-applies : goal.returns-clause-applies
returns-clause-applies c = search rules
