use Rattle.std.proofs.Common.{◌≡◌, sym, ap, ◌∙◌, subst}
use Rattle.theory_meaning.specs.Act as act
use Rattle.run_state.specs.State.{store_of}
use Rattle.run_steps.specs.Setting.{setting}
use Rattle.run_steps.specs.Placing.{HasRoot}
use Rattle.run_steps.specs.Variables.{root_meant}
use Rattle.run_steps.proofs.steps.machine.Machine.root_value.Goals as goal

pub returns-in-Global : goal.returns-in-Global
returns-in-Global g c =
    let here = setting g.H.Host.answers g.H.Host.modules c.args.self.now in
    let e : act.OfGlobal c.as_str-in-Global.result.now ≡ root_meant c.args.root = ap act.OfGlobal c.as_str-in-Global.ensures ∙ ap root_meant (sym c.in-Global.is) in
    subst (λ r. HasRoot here (store_of c.args.state.now) r c.global_value.result) e (c.global_value.ensures here)
