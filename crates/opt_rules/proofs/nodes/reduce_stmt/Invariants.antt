use Rattle.base_engine.specs.EngineInfo.{engine_of}
use Rattle.opt_base.specs.State.{progress}
use Rattle.ast_types.specs.Reading.{stmt_of}
use Rattle.theory_meaning.specs.Weight.{stmt_weight}
use Rattle.theory_rewriting.specs.Steps.{StmtSoFar}
use Rattle.opt_rules.proofs.nodes.reduce_stmt.Given as goal

abbrev pub invariant-loop : goal.invariant-loop
invariant-loop l = StmtSoFar (engine_of l.info) l.is_wanted (progress l.initial.state) (progress l.state) (stmt_of l.initial.statement) (stmt_of l.statement)

abbrev pub decreases-loop : goal.decreases-loop
decreases-loop l = stmt_weight (stmt_of l.statement)
