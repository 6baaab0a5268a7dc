use Rattle.std.proofs.Common.{◌≡◌, ℕ, Option, drop}
use Rattle.std.specs.List.{filter_map}
use Rattle.ast_types.specs.Reading.{arms_of}
use Rattle.opt_switch.specs.declared.choice.Choice.TheVariants.{Nothing}
use Rattle.opt_switch.specs.Choices.{choice_behind}
use Rattle.opt_switch.specs.Places.{Tells}
use Rattle.opt_switch.proofs.choice.choice_of.Given as goal

abbrev pub invariant-loop-entry : goal.invariant-loop-entry
invariant-loop-entry g l = (p : g.row.T.Denot → Option ℕ) → Tells g.F.Fn l.place_of p → choice_behind Nothing (arms_of l.arms) (filter_map p l.entries) ≡ choice_behind l.choice (arms_of l.arms) (filter_map p (drop l.entry-index l.entries))
