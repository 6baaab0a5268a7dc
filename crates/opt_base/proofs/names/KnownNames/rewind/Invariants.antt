use Rattle.std.proofs.Common.{◌≡◌, ◌-◌, length, drop}
use Rattle.opt_base.proofs.names.KnownNames.rewind.Given as goal

abbrev pub invariant-loop-self : goal.invariant-loop-self
invariant-loop-self l = drop (length l.self - l.len) l.self ≡ drop (length l.initial.self - l.len) l.initial.self

abbrev pub decreases-loop-self : goal.decreases-loop-self
decreases-loop-self l = length l.self
