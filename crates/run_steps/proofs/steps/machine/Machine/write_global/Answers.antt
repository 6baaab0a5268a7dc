use Rattle.std.proofs.Common.{true, Result, sym, subst}
use Rattle.rhai_base.specs.Reading.{value_of-Unit}
use Rattle.rhai_base.specs.Value.{UnitV}
use Rattle.theory_meaning.specs.Act.{OfGlobal, Write}
use Rattle.run_state.specs.declared.state.Interrupt.{Interrupt}
use Rattle.run_state.specs.Runs.{Acting, Goes, Leads, given}
use Rattle.run_steps.specs.Setting.{setting}
use Rattle.run_steps.proofs.Writing.{unrooted_write}
use Rattle.run_steps.proofs.steps.machine.Machine.write_global.Goals as goal

pub returns-in-Ok : goal.returns-in-Ok
returns-in-Ok g c = λ w.
    let here = setting g.H.Host.answers g.H.Host.modules c.args.self.now in
    let s = c.args.state.now in
    let by : Result Unit Interrupt → Type 0 = λ r. Leads here (Acting (Write true (OfGlobal c.args.name.now) w)) s r s (λ z. given UnitV) in
    subst (λ v. Goes here (Acting (Write true (OfGlobal c.args.name.now) w)) s (given v) s) (sym value_of-Unit)
    (subst by c.in-Ok.is (unrooted_write here w s (OfGlobal c.args.name.now) c.write_in_global.result (c.write_in_global.ensures w)))

pub returns-in-Err : goal.returns-in-Err
returns-in-Err g c = λ w.
    let here = setting g.H.Host.answers g.H.Host.modules c.args.self.now in
    let s = c.args.state.now in
    let by : Result Unit Interrupt → Type 0 = λ r. Leads here (Acting (Write true (OfGlobal c.args.name.now) w)) s r s (λ z. given UnitV) in
    subst by c.in-Err.is (unrooted_write here w s (OfGlobal c.args.name.now) c.write_in_global.result (c.write_in_global.ensures w))
