use Rattle.std.proofs.lemmas.Result.{err_from_is_err_and}
use Rattle.theory_meaning.specs.Chains.{index}
use Rattle.rhai_base.specs.Reading.{value_of}
use Rattle.run_steps.specs.Setting.{setting}
use Rattle.run_steps.specs.Placing.{current_in}
use Rattle.run_state.specs.State.{store_of}
use Rattle.run_steps.proofs.Quiet.{quiet_index}
use Rattle.run_steps.proofs.Targets.{found_steps}
use Rattle.run_steps.proofs.chains.finding.index_step.Goals as goal

pub returns-in_err-found : goal.returns-in_err-found
returns-in_err-found g c next =
    let p = err_from_is_err_and c.from_residual.result c.from_residual.ensures.1 in
    rw (p.1, p.2) (c.in_err-found.ensures next)

pub returns : goal.returns
returns g c =
    let here = setting g.H.Host.answers g.H.Host.modules c.args.machine.now in
    let at = current_in here (store_of c.args.state.now) c.args.current in
    found_steps here (λ next. index at at.value (value_of c.args.index_value) next) (λ next k. quiet_index here next k at at.value (value_of c.args.index_value)) c.args.current c.args.state.now c.find_index.new.state c.in_ok-found.found c.in_ok-found.ensures c.in_ok-found_at.field-0 c.in_ok-found_at.ensures
