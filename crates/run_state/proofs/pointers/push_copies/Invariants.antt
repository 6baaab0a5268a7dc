use Rattle.std.proofs.Common.{◌≡◌, ◌++◌, drop}
use Rattle.run_state.proofs.pointers.push_copies.Given as goal

abbrev pub invariant-loop-value : goal.invariant-loop-value
invariant-loop-value l = l.args ++ drop l.value-index l.values ≡ l.fn.args ++ l.values
