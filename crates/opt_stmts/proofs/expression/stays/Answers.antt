use Rattle.std.proofs.Common.{rules}
use Rattle.ast_types.specs.Reading.{shapes}
use Rattle.ast_types.proofs.Cases.{expr_cases}
use Rattle.opt_stmts.proofs.OtherStatements.{stays_as_statement}
use Rattle.opt_stmts.proofs.expression.stays.Goals as goal

pub returns-in_default : goal.returns-in_default
returns-in_default c = stays_as_statement (expr_cases c.args.expr.now) c.in_default.not-Stmt c.in_default.not-FnCall

pub returns-in-Stmt : goal.returns-in-Stmt
returns-in-Stmt c = search (rules, shapes)

pub returns-in-Stmt-2 : goal.returns-in-Stmt-2
returns-in-Stmt-2 c = search (rules, shapes)
