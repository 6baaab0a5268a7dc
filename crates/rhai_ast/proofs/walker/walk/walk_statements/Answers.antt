use Rattle.std.proofs.Common.{sym}
use Rattle.rhai_ast.proofs.walker.walk.walk_statements.Goals as goal

pub returns-clause-walks : goal.returns-clause-walks
returns-clause-walks g c =
    rw (c.answered.ensures, sym c.of_statements.ensures.standing) c.visit.ensures.walks
