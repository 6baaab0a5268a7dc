use Rattle.std.proofs.Common.{map}
use Rattle.std.specs.Rc.{rc_value}
use Rattle.script_tables.specs.Filter.{Answers}
use Rattle.script_tables.proofs.Choices.{Chooses}
use Rattle.script_tables.proofs.filter.chosen_functions.Given as goal

abbrev pub invariant-loop-function : goal.invariant-loop-function
invariant-loop-function g l = Chooses (Answers g.F.Fn) l.filter l.lib.functions l.function-iterator (map rc_value l.chosen.items)
