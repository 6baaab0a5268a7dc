use Rattle.std.proofs.Common.{refl, sym, ◌∙◌}
use Rattle.run_steps.specs.Setting.{setting}
use Rattle.run_state.specs.Variables.{IsLatest, IsMissing}
use Rattle.run_steps.proofs.Placing.{constant_value, latest_value}
use Rattle.run_steps.proofs.steps.machine.Machine.name_value.Goals as goal

pub returns-in-Some : goal.returns-in-Some
returns-in-Some g c =
    let s = c.args.state.now in
    let latest : IsLatest c.args.name.now s.scope.items c.in-Some.place = rw c.as_slice-scope.ensures.value at c.in-Some.ensures in
    rw c.as_slice-scope.ensures.value (latest_value (setting g.H.Host.answers g.H.Host.modules c.args.self.now) c.args.name.now s.scope.items c.in-Some.place latest _)

pub returns-in-Some-constant_named : goal.returns-in-Some-constant_named
returns-in-Some-constant_named g c =
    let missing : IsMissing c.args.name.now c.args.state.now.scope.items = rw c.as_slice-scope.ensures.value at c.in-None.ensures in
    constant_value (setting g.H.Host.answers g.H.Host.modules c.args.self.now) c.args.name.now c.args.state.now.scope.items missing ∙ sym c.in-Some-constant_named.ensures

pub returns-in-None-constant_named : goal.returns-in-None-constant_named
returns-in-None-constant_named g c =
    let missing : IsMissing c.args.name.now c.args.state.now.scope.items = rw c.as_slice-scope.ensures.value at c.in-None.ensures in
    (constant_value (setting g.H.Host.answers g.H.Host.modules c.args.self.now) c.args.name.now c.args.state.now.scope.items missing ∙ sym c.in-None-constant_named.ensures, refl)
