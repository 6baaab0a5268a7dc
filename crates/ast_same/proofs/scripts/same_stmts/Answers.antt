use Rattle.ast_types.specs.Reading.{stmts_of}
use Rattle.ast_same.proofs.Exact.{same_lists}
use Rattle.ast_same.proofs.scripts.same_stmts.Goals as goal

pub returns : goal.returns
returns c = same_lists c.alike_stmts.result (stmts_of c.args.first.now) (stmts_of c.args.second.now) c.alike_stmts.ensures
