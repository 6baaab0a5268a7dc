-- The parts of a `switch` and of its table, as they were put together.
use Rattle.std.proofs.Common.{◌≡◌, ap}
use Rattle.ast_types.specs.declared.block.StmtBlock.{StmtBlock}
use Rattle.ast_types.specs.declared.expr.BinaryExpr.{BinaryExpr}
use Rattle.ast_types.specs.declared.expr.Expr as declared_expr
use Rattle.ast_types.specs.declared.expr.Expr.TheOpen as open_one
use Rattle.ast_types.specs.declared.expr.Expr.TheViews as views
use Rattle.ast_types.specs.declared.expr.FnCallExpr.{FnCallExpr}
use Rattle.ast_types.specs.declared.stmt.FlowControl.{FlowControl}
use Rattle.ast_types.specs.declared.stmt.Stmt as declared_stmt
use Rattle.ast_types.specs.declared.switch.SwitchBlock.{SwitchBlock}
use Rattle.ast_types.specs.declared.switch.SwitchCasesCollection.{SwitchCasesCollection}
use Rattle.ast_types.specs.Reading.{cases_of, expressions_of, subject_of, table_by, table_of}

abbrev Parts : Type 0
Parts = open_one.SwitchBlock-F declared_expr.Expr declared_stmt.Stmt StmtBlock BinaryExpr FnCallExpr FlowControl SwitchBlock SwitchCasesCollection

abbrev TableParts : Type 0
TableParts = open_one.SwitchCasesCollection-F declared_expr.Expr declared_stmt.Stmt StmtBlock BinaryExpr FnCallExpr FlowControl SwitchBlock SwitchCasesCollection

pub subject_of-made : (x : Parts) → subject_of (views.roll-SwitchBlock x) ≡ x.expr
subject_of-made x = ap (λ (o : Parts). o.expr) (views.out-roll-SwitchBlock x)

pub cases_of-made : (x : Parts) → cases_of (views.roll-SwitchBlock x) ≡ x.cases
cases_of-made x = ap (λ (o : Parts). o.cases) (views.out-roll-SwitchBlock x)

pub expressions_of-made : (t : TableParts) → expressions_of (views.roll-SwitchCasesCollection t) ≡ t.expressions
expressions_of-made t = ap (λ (o : TableParts). o.expressions) (views.out-roll-SwitchCasesCollection t)

pub table_of-made : (t : TableParts) → table_of (views.roll-SwitchCasesCollection t) ≡ table_by t.cases t.ranges t.def_case
table_of-made t = ap (λ (o : TableParts). table_by o.cases o.ranges o.def_case) (views.out-roll-SwitchCasesCollection t)

pub ruleset made = (subject_of-made, cases_of-made, expressions_of-made, table_of-made)
