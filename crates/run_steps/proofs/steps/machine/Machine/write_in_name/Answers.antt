use Rattle.std.proofs.Common.{◌≡◌, Some, None, get_or, map, rules, refl, sym, ap, subst, ◌∙◌}
use Rattle.std.specs.Prelude.{if◌then◌else◌}
use Rattle.rhai_base.specs.Reading.{value_of}
use Rattle.run_places.specs.Reading.{key_meant}
use Rattle.run_steps.specs.Setting.{setting}
use Rattle.run_state.specs.Variables.{IsLatest, IsMissing}
use Rattle.run_steps.proofs.Writing.{constant_at, nowhere_at, written_at}
use Rattle.run_steps.proofs.steps.machine.Machine.write_in_name.Goals as goal

pub returns-then-is_constant : goal.returns-then-is_constant
returns-then-is_constant g c =
    let old = c.index_mut-variable.result.now in
    let e : old ≡ get_or c.args.state.now.scope.items c.in-Some.place old = search (rules, c.index_mut-variable.ensures.value) in
    let l = subst (λ es. IsLatest c.args.name.now es c.in-Some.place) c.as_slice.ensures.value c.in-Some.ensures in
    constant_at (setting g.H.Host.answers g.H.Host.modules c.args.self.now) c.args.must c.args.state.now (map key_meant c.args.keys.now) (value_of c.args.value) c.args.name.now c.in-Some.place l old e _ old.value refl refl refl c.constant_end.result refl (sym c.is_constant.ensures ∙ c.if-is_constant.true) c.constant_end.ensures

pub returns-then-branch : goal.returns-then-branch
returns-then-branch g c =
    let old = c.index_mut-variable.result.now in
    let e : old ≡ get_or c.args.state.now.scope.items c.in-Some.place old = search (rules, c.index_mut-variable.ensures.value) in
    let l = subst (λ es. IsLatest c.args.name.now es c.in-Some.place) c.as_slice.ensures.value c.in-Some.ensures in
    written_at (setting g.H.Host.answers g.H.Host.modules c.args.self.now) c.args.must c.args.state.now (map key_meant c.args.keys.now) (value_of c.args.value) c.args.name.now c.in-Some.place l old e _ c.replace_along.new.value refl refl refl (sym c.is_constant.ensures ∙ c.if-is_constant.false) (c.in_ok-replace_along.ensures.ok ∙ ap (λ b. if b then Some (value_of c.replace_along.new.value) else None) c.if-branch.true)

pub returns-else-branch : goal.returns-else-branch
returns-else-branch g c =
    let old = c.index_mut-variable.result.now in
    let e : old ≡ get_or c.args.state.now.scope.items c.in-Some.place old = search (rules, c.index_mut-variable.ensures.value) in
    let l = subst (λ es. IsLatest c.args.name.now es c.in-Some.place) c.as_slice.ensures.value c.in-Some.ensures in
    nowhere_at (setting g.H.Host.answers g.H.Host.modules c.args.self.now) c.args.must c.args.state.now (map key_meant c.args.keys.now) (value_of c.args.value) c.args.name.now c.in-Some.place l old e _ c.replace_along.new.value refl refl refl (c.in_ok-replace_along.ensures.kept c.if-branch.false) (c.in_ok-replace_along.ensures.ok ∙ ap (λ b. if b then Some (value_of c.replace_along.new.value) else None) c.if-branch.false)

pub returns-in_default : goal.returns-in_default
returns-in_default g c =
    let missing : IsMissing c.args.name.now c.args.state.now.scope.items = rw c.as_slice.ensures.value at c.in_default.ensures in
    c.write_in_constant.ensures c.args.state.now (value_of c.args.value) missing
