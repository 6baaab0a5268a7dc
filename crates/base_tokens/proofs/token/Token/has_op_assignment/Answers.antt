use Rattle.std.proofs.Common.{rules}
use Rattle.base_tokens.proofs.token.Token.has_op_assignment.Goals as goal

pub returns-in_default : goal.returns-in_default
returns-in_default c = search rules

pub returns-in-Plus : goal.returns-in-Plus
returns-in-Plus c = search rules

pub returns-in-Plus-2 : goal.returns-in-Plus-2
returns-in-Plus-2 c = search rules

pub returns-in-Plus-3 : goal.returns-in-Plus-3
returns-in-Plus-3 c = search rules

pub returns-in-Plus-4 : goal.returns-in-Plus-4
returns-in-Plus-4 c = search rules

pub returns-in-Plus-5 : goal.returns-in-Plus-5
returns-in-Plus-5 c = search rules

pub returns-in-Plus-6 : goal.returns-in-Plus-6
returns-in-Plus-6 c = search rules

pub returns-in-Plus-7 : goal.returns-in-Plus-7
returns-in-Plus-7 c = search rules

pub returns-in-Plus-8 : goal.returns-in-Plus-8
returns-in-Plus-8 c = search rules

pub returns-in-Plus-9 : goal.returns-in-Plus-9
returns-in-Plus-9 c = search rules

pub returns-in-Plus-10 : goal.returns-in-Plus-10
returns-in-Plus-10 c = search rules

pub returns-in-Plus-11 : goal.returns-in-Plus-11
returns-in-Plus-11 c = search rules
