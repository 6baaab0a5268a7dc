use Rattle.std.proofs.Common.{◌≡◌, Some, sym, ap, ◌∙◌, subst}
use Rattle.rhai_base.specs.Reading.{value_of}
use Rattle.run_places.specs.Reading.{part_value}
use Rattle.run_steps.specs.Placing.{current_in, place_meant, value_at}
use Rattle.run_steps.specs.Setting.{setting}
use Rattle.run_steps.specs.declared.steps.placing.Current.TheVariants.{At}
use Rattle.run_state.specs.State.{store_of}
use Rattle.run_steps.specs.Direct.{Comes}
use Rattle.run_steps.proofs.Following.{from_place}
use Rattle.run_steps.proofs.chains.direct.direct_value.Goals as goal

pub returns-in_ok-to_value-in-Some : goal.returns-in_ok-to_value-in-Some
returns-in_ok-to_value-in-Some g c = λ loop.
    let here = setting g.H.Host.answers g.H.Host.modules c.args.machine.now in
    let s = c.args.state.now in
    let there : value_at here (store_of s) (place_meant c.in-At.place) ≡ Some (value_of c.in-Ok-Stored.value.now) = c.in-Ok-Stored.ensures ∙ ap (λ p. Some (part_value p)) c.in-Ok-Stored.field-0-is in
    subst (λ x. Comes here s loop c.args.rest (current_in here (store_of s) x) (value_of c.in_ok-to_value-in-Some.field-0)) (sym c.in-At.is)
    (subst (λ v. Comes here s loop c.args.rest (current_in here (store_of s) (At c.in-At.place)) v) (sym c.in_ok-to_value-in-Some.ensures)
    (from_place here s c.args.rest (value_of c.in-Ok-Stored.value.now) (part_value c.in-Some.part) (place_meant c.in-At.place) there c.in-Some.ensures loop))
