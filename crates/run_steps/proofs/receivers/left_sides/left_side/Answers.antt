use Rattle.std.proofs.Common.{rules, sym}
use Rattle.ast_types.specs.Reading.{shapes}
use Rattle.ast_types.proofs.Cases.{expr_cases}
use Rattle.rhai_ast.proofs.OtherFaults.{no_left_side}
use Rattle.run_steps.proofs.receivers.left_sides.left_side.Goals as goal

pub returns-in_default-clause-side : goal.returns-in_default-clause-side
returns-in_default-clause-side c = sym (no_left_side (expr_cases c.args.expr.now) c.in_default.not-Variable c.in_default.not-ThisPtr c.in_default.not-Dot c.in_default.not-Index)

pub returns-in-Dot-clause-side : goal.returns-in-Dot-clause-side
returns-in-Dot-clause-side c = search (rules, shapes)

pub returns-in-Dot-clause-weight : goal.returns-in-Dot-clause-weight
returns-in-Dot-clause-weight c = search (rules, shapes)

pub returns-in-Index-clause-side : goal.returns-in-Index-clause-side
returns-in-Index-clause-side c = search (rules, shapes)

pub returns-in-Index-clause-weight : goal.returns-in-Index-clause-weight
returns-in-Index-clause-weight c = search (rules, shapes)

pub returns-in-ThisPtr-clause-side : goal.returns-in-ThisPtr-clause-side
returns-in-ThisPtr-clause-side c = search (rules, shapes)

pub returns-in-ThisPtr-clause-weight : goal.returns-in-ThisPtr-clause-weight
returns-in-ThisPtr-clause-weight c = search (rules, shapes)

pub returns-in-Variable-clause-side : goal.returns-in-Variable-clause-side
returns-in-Variable-clause-side c = search (rules, shapes)

pub returns-in-Variable-clause-weight : goal.returns-in-Variable-clause-weight
returns-in-Variable-clause-weight c = search (rules, shapes)
