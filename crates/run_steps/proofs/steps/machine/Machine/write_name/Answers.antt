use Rattle.std.proofs.Common.{◌≡◌, get_or, rules, refl, sym, subst, ◌∙◌}
use Rattle.rhai_base.specs.Reading.{value_of}
use Rattle.theory_meaning.specs.Act.{OfName}
use Rattle.run_steps.specs.Setting.{setting}
use Rattle.run_state.specs.Variables.{IsLatest, IsMissing}
use Rattle.run_steps.proofs.Writing.{constant_refused, name_replaced, unrooted_write}
use Rattle.run_steps.proofs.steps.machine.Machine.write_name.Goals as goal

pub returns-then-is_constant : goal.returns-then-is_constant
returns-then-is_constant g c =
    let old = c.index_mut-variable.result.now in
    let e : old ≡ get_or c.args.state.now.scope.items c.in-Some.place old = search (rules, c.index_mut-variable.ensures.value) in
    let l = subst (λ es. IsLatest c.args.name.now es c.in-Some.place) c.as_slice.ensures.value c.in-Some.ensures in
    constant_refused (setting g.H.Host.answers g.H.Host.modules c.args.self.now) (value_of c.args.value) c.args.state.now c.args.name.now c.in-Some.place l old e _ old.value refl refl refl refl (sym c.is_constant.ensures ∙ c.if-is_constant.true)

pub returns : goal.returns
returns g c =
    let old = c.index_mut-variable.result.now in
    let e : old ≡ get_or c.args.state.now.scope.items c.in-Some.place old = search (rules, c.index_mut-variable.ensures.value) in
    let l = subst (λ es. IsLatest c.args.name.now es c.in-Some.place) c.as_slice.ensures.value c.in-Some.ensures in
    name_replaced (setting g.H.Host.answers g.H.Host.modules c.args.self.now) (value_of c.args.value) c.args.state.now c.args.name.now c.in-Some.place l old e _ c.args.value refl refl refl (sym c.is_constant.ensures ∙ c.if-is_constant.false) refl

pub returns-in_default : goal.returns-in_default
returns-in_default g c =
    let missing : IsMissing c.args.name.now c.args.state.now.scope.items = rw c.as_slice.ensures.value at c.in_default.ensures in
    unrooted_write (setting g.H.Host.answers g.H.Host.modules c.args.self.now) (value_of c.args.value) c.args.state.now (OfName c.args.name.now) c.write_in_constant.result
    (c.write_in_constant.ensures c.args.state.now (value_of c.args.value) missing)
