use Rattle.ast_types.specs.Reading.{expr_of}
use Rattle.theory_meaning.specs.Weight.{expr_weight}
use Rattle.run_steps.proofs.chains.direct.+part_of.Given as goal

-- what is left gets lighter
abbrev pub decreases-part_of : goal.decreases-part_of
decreases-part_of g l = expr_weight (expr_of l.rest.right.now)
