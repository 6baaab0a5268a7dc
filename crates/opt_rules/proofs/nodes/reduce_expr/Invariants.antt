use Rattle.base_engine.specs.EngineInfo.{engine_of}
use Rattle.opt_base.specs.State.{progress}
use Rattle.ast_types.specs.Reading.{expr_of}
use Rattle.theory_meaning.specs.Weight.{expr_weight}
use Rattle.theory_rewriting.specs.Steps.{ExprSoFar}
use Rattle.opt_base.specs.Places.{place_of}
use Rattle.opt_rules.proofs.nodes.reduce_expr.Given as goal

abbrev pub invariant-loop : goal.invariant-loop
invariant-loop l = ExprSoFar (engine_of l.info) (place_of l.place) (progress l.initial.state) (progress l.state) (expr_of l.initial.expr) (expr_of l.expr)

abbrev pub decreases-loop : goal.decreases-loop
decreases-loop l = expr_weight (expr_of l.expr)
