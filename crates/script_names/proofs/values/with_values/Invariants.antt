use Rattle.std.proofs.Common.{◌≡◌, ◌++◌}
use Rattle.std.specs.Vec.Iter.{into_iter_items}
use Rattle.script_names.proofs.values.with_values.Given as goal

abbrev pub invariant-loop-value : goal.invariant-loop-value
invariant-loop-value l = record {
  name : l.pointer.name ≡ l.fn.pointer.name;
  curried : l.pointer.curried ++ into_iter_items l.value-iterator ≡ l.fn.pointer.curried ++ l.fn.values;
}
