use Rattle.ast_types.specs.Reading.{expr_of}
use Rattle.theory_meaning.specs.Weight.{expr_weight}
use Rattle.run_steps.proofs.chains.following.+follow.Given as goal

-- what is left gets lighter
abbrev pub decreases-follow : goal.decreases-follow
decreases-follow g l = expr_weight (expr_of l.rest.right.now)
