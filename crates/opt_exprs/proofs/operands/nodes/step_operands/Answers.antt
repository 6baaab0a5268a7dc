use Rattle.std.proofs.Common.{refl, ap}
use Rattle.ast_types.specs.Reading.{expr_of}
use Rattle.opt_base.proofs.Passing.{pass_put, rewrite_passes}
use Rattle.opt_base.proofs.Stepping.{expr_rewrite_as}
use Rattle.opt_exprs.proofs.Single.{operands_stay}
use Rattle.opt_exprs.proofs.operands.nodes.step_operands.Goals as goal
use Rattle.opt_exprs.proofs.operands.nodes.step_operands.Goals.{in-Fewer, in-Becomes}

pub returns-in-Kept : goal.returns-in-Kept
returns-in-Kept c = λ r. operands_stay c.requires (rw c.in-Kept.is at c.node_outcome.ensures)

pub returns : goal.returns
returns c = λ r.
    elim c.match-node_outcome.branch [
      | in-Fewer w ↦ rw w.expr-is (pass_put c.note_fired.ensures.dirty c.note_fired.ensures.known (rw w.in-Fewer.is at c.node_outcome.ensures))
      | in-Becomes w ↦ rw w.expr-is (rewrite_passes c.note_fired.ensures.dirty c.note_fired.ensures.known (expr_rewrite_as refl (ap expr_of w.put_expr.ensures) (rw w.in-Becomes.is at c.node_outcome.ensures)))
    ]
