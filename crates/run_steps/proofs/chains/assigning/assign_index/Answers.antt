use Rattle.std.proofs.Common.{Ok, Err, ap}
use Rattle.std.proofs.lemmas.Result.{err_from_is_err_and}
use Rattle.rhai_base.specs.Reading.{value_of}
use Rattle.run_steps.specs.declared.steps.parts.Access.TheVariants as reached
use Rattle.run_steps.specs.Placing.{current_in}
use Rattle.run_steps.specs.Setting.{setting}
use Rattle.run_state.specs.State.{store_of}
use Rattle.run_steps.proofs.Quiet.{quiet_index}
use Rattle.run_steps.proofs.Targets.{index_changes, last_stops, last_written}
use Rattle.run_steps.proofs.chains.assigning.assign_index.Goals as goal

pub returns-in_err-written : goal.returns-in_err-written
returns-in_err-written g c o h =
    let here = setting g.H.Host.answers g.H.Host.modules c.args.machine.now in
    let at = current_in here (store_of c.args.state.now) c.args.current in
    let p = err_from_is_err_and c.from_residual-in_err-written.result c.from_residual-in_err-written.ensures.1 in
    rw (p.1, p.2) (last_stops here o (value_of c.args.value) (reached.Index c.args.index_value) c.args.current c.args.state.now c.args.op h _ c.changed_index.new.state (λ q e. index_changes here at (value_of c.in_ok-at.at) (value_of c.args.index_value) c.args.state.now c.changed_index.new.state q (value_of c.args.value) (Err _) (ap value_of c.in_ok-at.ensures.cases) (c.in_err-written.ensures q e)))

pub returns : goal.returns
returns g c o h =
    let here = setting g.H.Host.answers g.H.Host.modules c.args.machine.now in
    let at = current_in here (store_of c.args.state.now) c.args.current in
    last_written here o (value_of c.args.value) (reached.Index c.args.index_value) c.args.current c.args.state.now c.args.op h (λ next q. quiet_index here next q at at.value (value_of c.args.index_value)) c.in_ok-written.written c.changed_index.new.state c.set_at.new.state c.set_at.result (λ q e. index_changes here at (value_of c.in_ok-at.at) (value_of c.args.index_value) c.args.state.now c.changed_index.new.state q (value_of c.args.value) (Ok c.in_ok-written.written) (ap value_of c.in_ok-at.ensures.cases) (c.in_ok-written.ensures q e)) c.set_at.ensures
