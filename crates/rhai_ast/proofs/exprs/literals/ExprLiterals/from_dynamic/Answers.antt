use Rattle.std.proofs.Common.{rules}
use Rattle.rhai_ast.proofs.exprs.literals.ExprLiterals.from_dynamic.Goals as goal

pub returns-clause-position : goal.returns-clause-position
returns-clause-position c = search rules

pub returns-clause-arguments : goal.returns-clause-arguments
returns-clause-arguments c = search rules
