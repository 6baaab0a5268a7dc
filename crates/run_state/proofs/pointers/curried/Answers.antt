use Rattle.run_state.proofs.PointerRuns.{curried_runs, curried_stuck}
use Rattle.run_state.proofs.pointers.curried.Goals as goal

pub returns-in_ok-with_values-in-FnPtr : goal.returns-in_ok-with_values-in-FnPtr
returns-in_ok-with_values-in-FnPtr c =
    let made = c.in_ok-with_values-in-FnPtr in
    λ here s. rw c.in-FnPtr.is (curried_runs here s c.in-FnPtr.pointer made.field-0 c.args.values.now made.ensures.name made.ensures.values)

pub returns-in_default : goal.returns-in_default
returns-in_default c = λ here s. curried_stuck here s c.args.pointer.now _ c.in_default.not-FnPtr
