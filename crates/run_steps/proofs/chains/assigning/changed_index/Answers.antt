use Rattle.std.proofs.lemmas.Result.{err_from_is_err_and}
use Rattle.theory_meaning.specs.Chains.{index}
use Rattle.rhai_base.specs.Reading.{value_of}
use Rattle.run_steps.specs.Setting.{setting}
use Rattle.run_steps.specs.Placing.{current_in}
use Rattle.run_state.specs.State.{store_of}
use Rattle.run_steps.proofs.Quiet.{quiet_index}
use Rattle.run_steps.proofs.Targets.{changes, find_ends}
use Rattle.run_steps.proofs.chains.assigning.changed_index.Goals as goal

pub returns-in_err-found : goal.returns-in_err-found
returns-in_err-found g c o h =
    let here = setting g.H.Host.answers g.H.Host.modules c.args.machine.now in
    let at = current_in here (store_of c.args.state.now) c.args.current.now in
    let p = err_from_is_err_and c.from_residual.result c.from_residual.ensures.1 in
    rw (p.1, p.2) (find_ends here at (λ next. index at at.value (value_of c.args.index_value) next) c.args.state.now _ o (value_of c.args.value) _ c.in_err-found.ensures)

pub returns : goal.returns
returns g c o h =
    let here = setting g.H.Host.answers g.H.Host.modules c.args.machine.now in
    let at = current_in here (store_of c.args.state.now) c.args.current.now in
    changes here (λ next. index at at.value (value_of c.args.index_value) next) (λ next k. quiet_index here next k at at.value (value_of c.args.index_value)) c.args.current.now c.args.state.now c.find_index.new.state c.in_ok-found.found c.in_ok-found.ensures o (value_of c.args.value) c.assigned.result _ (value_of c.in_ok-old.old) c.in_ok-old.ensures (c.assigned.ensures o h)
