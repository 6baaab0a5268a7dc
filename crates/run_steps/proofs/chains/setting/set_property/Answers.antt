use Rattle.std.proofs.Common.{sym, ◌∙◌}
use Rattle.theory_meaning.specs.Places.{AtEntry, inside}
use Rattle.run_places.specs.Reading.{part_value}
use Rattle.rhai_base.specs.Reading.{value_of}
use Rattle.rhai_base.specs.Value.{UnitV}
use Rattle.run_steps.specs.declared.steps.placing.Current.TheVariants as kind
use Rattle.run_steps.specs.Chaining.{names_meant}
use Rattle.run_steps.specs.Setting.{setting}
use Rattle.run_steps.specs.Placing.{current_in, place_meant}
use Rattle.run_state.specs.Runs.{given}
use Rattle.run_state.specs.State.{store_of}
use Rattle.run_steps.proofs.Chaining.{is_some_by, no_part, set_property_asked, set_property_part}
use Rattle.run_steps.proofs.chains.setting.set_property.Goals as goal

pub returns-then-is_some : goal.returns-then-is_some
returns-then-is_some g c =
    let here = (setting g.H.Host.answers g.H.Host.modules c.args.machine.now) in
    let at = current_in here (store_of c.args.state.now) (kind.At c.args.place) in
    let some = is_some_by c.inside.result part_value _ (sym c.is_some.ensures ∙ c.if-is_some.true) (c.inside.ensures ∙ (λ j. inside (c.place_part.ensures j) (AtEntry (c.in_ok-clone.ensures.cases j)))) in
    set_property_part here c.args.state.now _ c.write_under.result (λ z. given UnitV) at (names_meant c.args.names) (value_of c.args.value) (place_meant c.args.place) c.in_ok-clone.field-0 some c.in_ok-clone.ensures.cases c.write_under.ensures

pub returns : goal.returns
returns g c =
    let here = (setting g.H.Host.answers g.H.Host.modules c.args.machine.now) in
    let at = current_in here (store_of c.args.state.now) (kind.At c.args.place) in
    let none = no_part c.inside.result part_value _ (sym c.is_some.ensures ∙ c.if-is_some.false) (c.inside.ensures ∙ (λ j. inside (c.place_part.ensures j) (AtEntry (c.in_ok-clone.ensures.cases j)))) in
    set_property_asked here c.args.state.now _ c.set_property_by_host.result (λ z. given UnitV) at (names_meant c.args.names) (value_of c.args.value) (place_meant c.args.place) none c.set_property_by_host.ensures
