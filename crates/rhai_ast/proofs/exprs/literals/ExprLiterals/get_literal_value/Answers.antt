use Rattle.std.proofs.Common.{rules}
use Rattle.rhai_ast.proofs.exprs.literals.ExprLiterals.get_literal_value.Goals as goal

pub returns-clause-value : goal.returns-clause-value
returns-clause-value c = search rules
