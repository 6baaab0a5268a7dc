use Rattle.ast_types.proofs.Cases.{stmt_cases}
use Rattle.opt_rules.proofs.Kept.{no_rule}
use Rattle.opt_rules.proofs.Passing.{stmt_anywhere, stmt_under, stmt_wanted}
use Rattle.opt_rules.proofs.nodes.step_stmt.Goals as goal

pub returns-in-Expr : goal.returns-in-Expr
returns-in-Expr c = c.step_expression.ensures.step _

pub returns-in-FnCall : goal.returns-in-FnCall
returns-in-FnCall c = stmt_wanted _ _ _ _ _ _ _ c.step_call_statement.ensures

pub returns-in-If : goal.returns-in-If
returns-in-If c = stmt_under _ _ _ _ _ _ _ c.step_if.ensures.step

pub returns-in-Block : goal.returns-in-Block
returns-in-Block c = c.step_block.ensures.step _ _

pub returns-in-While : goal.returns-in-While
returns-in-While c = c.step_while.ensures.step _ _

pub returns-in-TryCatch : goal.returns-in-TryCatch
returns-in-TryCatch c = c.step_try.ensures.step _ _

pub returns-in-Assignment : goal.returns-in-Assignment
returns-in-Assignment c = c.step_assignment.ensures.step _

pub returns-in-Share : goal.returns-in-Share
returns-in-Share c = c.step_share.ensures.step _ _

pub returns-in-Switch : goal.returns-in-Switch
returns-in-Switch c = stmt_anywhere _ _ _ _ _ _ _ c.step_switch.ensures

pub returns-in_default : goal.returns-in_default
returns-in_default c = no_rule (stmt_cases c.args.statement.now) c.in_default.not-FnCall c.in_default.not-If c.in_default.not-While c.in_default.not-Switch c.in_default.not-Expr c.in_default.not-Block c.in_default.not-TryCatch c.in_default.not-Assignment c.in_default.not-Share
