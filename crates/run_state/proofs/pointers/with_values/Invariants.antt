use Rattle.std.proofs.Common.{◌≡◌, ◌++◌, drop}
use Rattle.run_state.proofs.pointers.with_values.Given as goal

abbrev pub invariant-loop-value : goal.invariant-loop-value
invariant-loop-value l = record {
  name : l.made.name ≡ l.pointer.name;
  values : l.made.curried ++ drop l.value-index l.values ≡ l.pointer.curried ++ l.values;
}
