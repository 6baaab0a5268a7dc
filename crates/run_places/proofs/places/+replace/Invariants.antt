use Rattle.std.proofs.Common.{◌+◌, ◌*◌, length}
use Rattle.run_places.proofs.places.+replace.Given as goal

-- the keys that are left
abbrev pub decreases-replace_along : goal.decreases-replace_along
decreases-replace_along l = 2 * length l.keys.now

abbrev pub decreases-replace_element : goal.decreases-replace_element
decreases-replace_element l = 2 * length l.others.now + 1

abbrev pub decreases-replace_entry : goal.decreases-replace_entry
decreases-replace_entry l = 2 * length l.others.now + 1
