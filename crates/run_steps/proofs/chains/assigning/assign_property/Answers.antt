use Rattle.std.proofs.lemmas.Result.{err_from_is_err_and}
use Rattle.rhai_base.specs.Reading.{value_of}
use Rattle.run_steps.specs.declared.steps.parts.Access.TheVariants as reached
use Rattle.run_steps.specs.Chaining.{names_meant}
use Rattle.run_steps.specs.Placing.{current_in}
use Rattle.run_steps.specs.Setting.{setting}
use Rattle.run_state.specs.State.{store_of}
use Rattle.run_steps.proofs.Quiet.{quiet_property}
use Rattle.run_steps.proofs.Targets.{last_stops, last_written}
use Rattle.run_steps.proofs.chains.assigning.assign_property.Goals as goal

pub returns-in_err-written : goal.returns-in_err-written
returns-in_err-written g c o h =
    let here = setting g.H.Host.answers g.H.Host.modules c.args.machine.now in
    let p = err_from_is_err_and c.from_residual.result c.from_residual.ensures.1 in
    rw (p.1, p.2) (last_stops here o (value_of c.args.value) (reached.Property c.args.names) c.args.current c.args.state.now c.args.op h _ c.changed_property.new.state c.in_err-written.ensures)

pub returns : goal.returns
returns g c o h =
    let here = setting g.H.Host.answers g.H.Host.modules c.args.machine.now in
    let at = current_in here (store_of c.args.state.now) c.args.current in
    last_written here o (value_of c.args.value) (reached.Property c.args.names) c.args.current c.args.state.now c.args.op h (λ next q. quiet_property here next q (names_meant c.args.names) at at.value) c.in_ok-written.written c.changed_property.new.state c.set_at.new.state c.set_at.result c.in_ok-written.ensures c.set_at.ensures
