use Rattle.std.proofs.Common.{◌≡◌, ◌∙◌, [], ◌∷◌, sym, subst}
use Rattle.rhai_base.specs.Operators.{NoEntry}
use Rattle.rhai_base.specs.Reading.{value_of}
use Rattle.theory_meaning.specs.ActForms.{ask_host}
use Rattle.run_steps.specs.Setting.{setting}
use Rattle.run_state.specs.Evaluating.{Runs}
use Rattle.run_state.specs.Runs.{Acting}
use Rattle.base_engine.specs.EngineInfo.{built_in_at}
use Rattle.run_steps.proofs.Callees.{operates_by_host}
use Rattle.run_steps.proofs.steps.machine.Machine.operate_two.Goals as goal

pub returns : goal.returns
returns g c = λ o h.
    let here = setting g.H.Host.answers g.H.Host.modules c.args.self.now in
    let vs = value_of c.args.x ∷ value_of c.args.y ∷ [] in
    let no_entry : NoEntry ≡ built_in_at here.world.engine c.args.op vs = rw c.in-None.is at c.in_ok-value.ensures in
    let asked = subst (λ f. Runs here (Acting (ask_host f vs)) c.args.state.now c.ask_host.result c.ask_host.new.state) (c.in_ok-name-in-None.ensures ∙ c.literal_syntax.ensures) (rw c.in_ok-args-in-None.ensures at c.ask_host.ensures) in
    subst (λ a. Runs here (Acting a) c.args.state.now c.ask_host.result c.ask_host.new.state)
    (sym (operates_by_host here.world c.args.op o vs no_entry h)) asked
