use Rattle.std.proofs.Common.{sym}
use Rattle.opt_stmts.proofs.Assigning.{few, many}
use Rattle.opt_stmts.proofs.assign.assignment.are_name_and_value.Goals as goal

pub returns-in_default : goal.returns-in_default
returns-in_default c = sym (few _ _ c.in_default.len_below)

pub returns-in_default-2 : goal.returns-in_default-2
returns-in_default-2 c = sym (many _ _ c.in_default.len_at_least)
