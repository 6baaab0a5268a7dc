use Rattle.std.proofs.Common.{◌≡◌, map}
use Rattle.std.specs.Rc.{rc_value}
use Rattle.std.specs.Vec.Iter.{into_iter_items}
use Rattle.opt_base.specs.State.{progress}
use Rattle.opt_reducer.specs.Parts.{record_of}
use Rattle.rhai_optimizer.proofs.Bodies.{Done}
use Rattle.rhai_optimizer.proofs.functions.each_function.Given as goal

abbrev pub invariant-loop-function : goal.invariant-loop-function
invariant-loop-function l =
    ((progress l.state).known ≡ (progress l.initial.state).known)
    × Done (record_of l.optimizer) (progress l.initial.state).known (map rc_value l.fn.functions.items) (map rc_value (into_iter_items l.function-iterator)) (map rc_value l.made.items)
