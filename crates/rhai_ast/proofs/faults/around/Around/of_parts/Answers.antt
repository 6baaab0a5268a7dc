use Rattle.std.proofs.Common.{◌∙◌}
use Rattle.ast_types.proofs.Cases.{expr_cases}
use Rattle.rhai_ast.specs.Places.{around_of}
use Rattle.rhai_ast.proofs.OtherFaults.{no_sides}
use Rattle.rhai_ast.proofs.faults.around.Around.of_parts.Goals as goal

pub returns-in_default : goal.returns-in_default
returns-in_default c = c.whole.ensures ∙ no_sides (around_of c.args.self) (expr_cases c.args.expr.now) c.in_default.not-Dot c.in_default.not-Index
