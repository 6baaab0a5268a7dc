use Rattle.std.proofs.Common.{◌≡◌, ℕ, ◌+◌, ◌≤◌, Option, drop, length}
use Rattle.std.specs.List.{filter_map}
use Rattle.ast_types.specs.Reading.{arms_of}
use Rattle.theory_rewriting.specs.Tables.{left_arms}
use Rattle.opt_switch.specs.Places.{Tells}
use Rattle.opt_switch.proofs.tried.left_len.Given as goal

abbrev pub invariant-loop-entry : goal.invariant-loop-entry
invariant-loop-entry g l = (l.left ≤ l.entry-index) × ((p : g.row.T.Denot → Option ℕ) → Tells g.F.Fn l.place_of p → length (left_arms (arms_of l.arms) (filter_map p l.entries)) ≡ l.left + length (left_arms (arms_of l.arms) (filter_map p (drop l.entry-index l.entries))))
