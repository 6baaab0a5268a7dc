use Rattle.std.proofs.Common.{◌≡◌, ℕ, ◌+◌, drop, map}
use Rattle.ast_types.specs.Reading.{arms_of}
use Rattle.opt_switch.specs.Ends.{end_of}
use Rattle.opt_switch.specs.Places.{Tells}
use Rattle.opt_switch.proofs.tried.end_of.Given as goal

abbrev pub invariant-loop-entry : goal.invariant-loop-entry
invariant-loop-entry g l = (l.end ≡ l.entry-index) × ((p : g.row.T.Denot → ℕ) → Tells g.F.Fn l.place_of p → end_of (arms_of l.arms) (map p l.entries) ≡ l.end + end_of (arms_of l.arms) (map p (drop l.entry-index l.entries)))
