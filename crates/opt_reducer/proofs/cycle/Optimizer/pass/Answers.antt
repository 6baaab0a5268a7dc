use Rattle.std.proofs.Common.{sym, ap, subst}
use Rattle.opt_base.specs.State.{progress}
use Rattle.opt_reducer.proofs.Parts.{same_known}
use Rattle.ast_types.specs.Reading.{stmts_of}
use Rattle.opt_reducer.specs.Parts.{record_of}
use Rattle.opt_reducer.specs.Pass.{PassRun}
use Rattle.opt_reducer.proofs.Passing.{pass_run}
use Rattle.opt_reducer.proofs.cycle.Optimizer.pass.Goals as goal

pub returns : goal.returns
returns c =
    subst (λ b. PassRun (record_of c.args.self.now) b (progress c.args.state.now) (progress c.stmt_block.new.state) (stmts_of c.args.statements.now) (stmts_of c.stmt_block.new.statements)) (sym c.is_dirty.ensures)
    (pass_run {s = progress c.args.state.now} c.clear_dirty.ensures.flag (same_known c.args.state.now c.clear_dirty.new.self c.clear_dirty.ensures.names c.clear_dirty.ensures.setting) c.in_ok-stmt_block.ensures)
