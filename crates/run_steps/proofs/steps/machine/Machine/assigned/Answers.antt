use Rattle.std.proofs.Common.{sym, subst}
use Rattle.rhai_base.specs.Reading.{value_of}
use Rattle.run_steps.specs.Setting.{setting}
use Rattle.run_state.specs.Evaluating.{Runs}
use Rattle.run_state.specs.Runs.{Acting}
use Rattle.run_steps.proofs.Assigning.{assigned_asks}
use Rattle.run_steps.proofs.steps.machine.Machine.assigned.Goals as goal

pub returns-in_ok-args : goal.returns-in_ok-args
returns-in_ok-args g c o h =
    let here = setting g.H.Host.answers g.H.Host.modules c.args.self.now in
    let asked = assigned_asks here.world o (value_of c.args.old) (value_of c.args.new) c.in_ok-asks.asks (c.in_ok-asks.ensures o h) c.if-asks.true in
    subst (λ a. Runs here (Acting a) c.args.state.now c.ask_assigning.result c.ask_assigning.new.state) (sym asked) (rw c.in_ok-args.ensures at (c.ask_assigning.ensures o h))
