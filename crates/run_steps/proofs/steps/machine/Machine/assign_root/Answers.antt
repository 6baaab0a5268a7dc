use Rattle.std.proofs.lemmas.Result.{err_from_is_err_and}
use Rattle.run_steps.proofs.Roots.{plain_runs, read_stops, operator_stops, written_runs}
use Rattle.run_steps.proofs.steps.machine.Machine.assign_root.Goals as goal

pub returns-in_err-old-in-Some : goal.returns-in_err-old-in-Some
returns-in_err-old-in-Some g c =
    let p = err_from_is_err_and c.from_residual.result c.from_residual.ensures.1 in
    rw (p.1, p.2) (read_stops _ _ _ _ c.in-Some.token c.in-Some.ensures _ _ _ c.in_err-old-in-Some.ensures)

pub returns-in_err-written-in-Some : goal.returns-in_err-written-in-Some
returns-in_err-written-in-Some g c =
    let p = err_from_is_err_and c.from_residual-in_err-written-in-Some.result c.from_residual-in_err-written-in-Some.ensures.1 in
    rw (p.1, p.2) (operator_stops _ _ _ _ c.in-Some.token c.in-Some.ensures _ _ _ _ c.in_ok-old-in-Some.ensures _ c.in_err-written-in-Some.ensures)

pub returns-in_ok-written-in-Some : goal.returns-in_ok-written-in-Some
returns-in_ok-written-in-Some g c =
    written_runs _ _ _ _ c.in-Some.token c.in-Some.ensures _ _ _ _ c.in_ok-old-in-Some.ensures _ _ c.in_ok-written-in-Some.ensures _ c.write_value.ensures

pub returns-in-None : goal.returns-in-None
returns-in-None g c = plain_runs _ _ _ _ c.in-None.ensures _ _ _ c.write_value-in-None.ensures
