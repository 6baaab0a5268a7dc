use Rattle.std.proofs.Common.{◌≡◌, drop}
use Rattle.ast_types.specs.Reading.{pairs_of}
use Rattle.opt_base.specs.Whole.{are_whole_members}
use Rattle.opt_base.proofs.whole.are_whole_members.Given as goal

abbrev pub invariant-loop-member : goal.invariant-loop-member
invariant-loop-member l = are_whole_members (pairs_of l.members) ≡ are_whole_members (pairs_of (drop l.member-index l.members))
