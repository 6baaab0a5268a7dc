use Rattle.std.proofs.Common.{length}
use Rattle.opt_chains.proofs.Members.{FrontOf}
use Rattle.opt_chains.proofs.parts.literals.member_for.Given as goal

abbrev pub invariant-loop-member : goal.invariant-loop-member
invariant-loop-member l = FrontOf l.members l.left l.key

abbrev pub decreases-loop-member : goal.decreases-loop-member
decreases-loop-member l = length l.left
