use Rattle.std.proofs.Common.{length}
use Rattle.run_places.proofs.places.+along.Given as goal

-- the keys that are left
abbrev pub decreases-along : goal.decreases-along
decreases-along l = length l.keys.now
