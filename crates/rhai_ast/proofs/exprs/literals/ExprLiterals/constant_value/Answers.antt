use Rattle.std.proofs.Common.{rules}
use Rattle.rhai_ast.proofs.exprs.literals.ExprLiterals.constant_value.Goals as goal

pub returns : goal.returns
returns c = search rules
