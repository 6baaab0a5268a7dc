use Rattle.std.proofs.Common.{rules}
use Rattle.ast_types.specs.Reading.{shapes}
use Rattle.rhai_base.specs.Reading.{kinds}
use Rattle.ast_types.proofs.Cases.{expr_cases}
use Rattle.rhai_ast.proofs.OtherFaults.{no_left_side}
use Rattle.rhai_ast.proofs.faults.shape.is_left_side.Goals as goal

pub returns-in_default : goal.returns-in_default
returns-in_default c = no_left_side (expr_cases c.args.expr.now) c.in_default.not-Variable c.in_default.not-ThisPtr c.in_default.not-Dot c.in_default.not-Index

pub returns-in-Variable : goal.returns-in-Variable
returns-in-Variable c = search (rules, shapes, kinds)

pub returns-in-Variable-2 : goal.returns-in-Variable-2
returns-in-Variable-2 c = search (rules, shapes, kinds)

pub returns-in-Variable-3 : goal.returns-in-Variable-3
returns-in-Variable-3 c = search (rules, shapes, kinds)

pub returns-in-Variable-4 : goal.returns-in-Variable-4
returns-in-Variable-4 c = search (rules, shapes, kinds)
