use Rattle.std.proofs.Common.{ap}
use Rattle.ast_types.specs.Reading.{expr_of, stmts_of}
use Rattle.theory_meaning.specs.Tree.{While}
use Rattle.opt_stmts.proofs.FiredStatements.{looped}
use Rattle.opt_stmts.proofs.loops.while_true.Goals as goal

pub returns : goal.returns
returns c =
    λ r w. looped (expr_of c.args.flow.now.expr) (stmts_of c.args.flow.now.body.block) (ap (λ e. While e (stmts_of c.args.flow.now.body.block)) c.put_unit.ensures.unit) c.requires c.put_unit.ensures.dirty c.put_unit.ensures.known
