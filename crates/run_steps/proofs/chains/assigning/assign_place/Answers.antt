use Rattle.std.proofs.lemmas.Result.{err_from_is_err_and}
use Rattle.rhai_base.specs.Reading.{value_of}
use Rattle.rhai_base.specs.Builtin.{operator_of}
use Rattle.run_steps.specs.Placing.{or_unit_at, place_meant}
use Rattle.run_steps.specs.Setting.{setting}
use Rattle.run_state.specs.State.{store_of}
use Rattle.run_steps.proofs.FollowingSides.{place_stops, place_written}
use Rattle.run_steps.proofs.chains.assigning.assign_place.Goals as goal

pub returns-in_err-written : goal.returns-in_err-written
returns-in_err-written g c =
    let p = err_from_is_err_and c.from_residual-in_err-written.result c.from_residual-in_err-written.ensures.1 in
    rw (p.1, p.2) (place_stops (setting g.H.Host.answers g.H.Host.modules c.args.machine.now) (operator_of c.args.op.now.op) (value_of c.args.value) (place_meant c.args.place) (or_unit_at (setting g.H.Host.answers g.H.Host.modules c.args.machine.now) (store_of c.args.state.now) (place_meant c.args.place)) c.in-Some.token c.in-Some.ensures c.args.state.now c.assigned.new.state c.in_ok-old.old c.in_ok-old.ensures _ c.in_err-written.ensures)

pub returns : goal.returns
returns g c =
    place_written (setting g.H.Host.answers g.H.Host.modules c.args.machine.now) (operator_of c.args.op.now.op) (value_of c.args.value) (place_meant c.args.place) (or_unit_at (setting g.H.Host.answers g.H.Host.modules c.args.machine.now) (store_of c.args.state.now) (place_meant c.args.place)) c.in-Some.token c.in-Some.ensures c.args.state.now c.assigned.new.state c.in_ok-old.old c.in_ok-old.ensures c.in_ok-written.written c.write_place-2.new.state c.write_place-2.result c.in_ok-written.ensures c.write_place-2.ensures
