use Rattle.std.proofs.Common.{rules}
use Rattle.rhai_ast.proofs.walk.ExprWalk.walk.Goals as goal

pub returns-clause-walks : goal.returns-clause-walks
returns-clause-walks g c = search rules
