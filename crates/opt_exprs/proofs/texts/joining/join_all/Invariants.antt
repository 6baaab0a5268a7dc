use Rattle.std.proofs.Common.{◌-◌, length}
use Rattle.opt_exprs.specs.Parts.{first_joins}
use Rattle.opt_exprs.proofs.TextJoins.{Moving}
use Rattle.opt_exprs.proofs.texts.joining.join_all.Given as goal

abbrev pub invariant-loop-at : goal.invariant-loop-at
invariant-loop-at l = Moving first_joins l.initial.parts l.parts l.at l.kept

abbrev pub decreases-loop-at : goal.decreases-loop-at
decreases-loop-at l = length l.parts - l.at
