use Rattle.opt_base.specs.State.{progress}
use Rattle.theory_meaning.specs.Weight.{weight}
use Rattle.ast_types.specs.Reading.{stmts_of}
use Rattle.opt_reducer.specs.Parts.{record_of}
use Rattle.rhai_optimizer.specs.Passes.{SettingSoFar}
use Rattle.rhai_optimizer.proofs.passes.make_passes.Given as goal

abbrev pub invariant-loop-has_changed : goal.invariant-loop-has_changed
invariant-loop-has_changed l = SettingSoFar (record_of l.optimizer) l.number (progress l.initial.state) (progress l.state) (stmts_of l.initial.statements) (stmts_of l.statements)

abbrev pub decreases-loop-has_changed : goal.decreases-loop-has_changed
decreases-loop-has_changed l = weight (stmts_of l.statements)
