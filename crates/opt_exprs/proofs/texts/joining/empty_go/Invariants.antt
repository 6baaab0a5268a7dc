use Rattle.opt_exprs.specs.Parts.{first_goes}
use Rattle.opt_exprs.proofs.TextJoins.{Moving}
use Rattle.opt_exprs.proofs.texts.joining.empty_go.Given as goal

abbrev pub invariant-loop-at : goal.invariant-loop-at
invariant-loop-at l = Moving first_goes l.initial.parts l.parts l.at l.kept
