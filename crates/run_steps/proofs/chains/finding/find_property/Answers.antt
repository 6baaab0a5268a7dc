use Rattle.std.proofs.Common.{sym, ◌∙◌}
use Rattle.theory_meaning.specs.Places.{AtEntry, inside}
use Rattle.run_steps.specs.Chaining.{names_meant}
use Rattle.run_steps.specs.Setting.{setting}
use Rattle.run_steps.specs.Placing.{current_in}
use Rattle.run_state.specs.State.{store_of}
use Rattle.run_steps.proofs.Chaining.{property_asked, no_part}
use Rattle.run_places.specs.Reading.{part_value}
use Rattle.run_steps.proofs.chains.finding.find_property.Goals as goal

pub returns : goal.returns
returns g c next =
    let here = setting g.H.Host.answers g.H.Host.modules c.args.machine.now in
    let at = current_in here (store_of c.args.state.now) c.args.current.now in
    let none = no_part c.inside.result part_value _ (sym c.is_some.ensures ∙ c.if-is_some.false) (c.inside.ensures ∙ (λ j. inside (c.current_part.ensures j) (AtEntry (c.in_ok-clone.ensures.cases j)))) in
    property_asked here c.args.state.now _ c.ask_for.result _ at next c.in_ok-clone-2.field-0 c.new-args.result (names_meant c.args.names) none c.in_ok-clone-2.ensures.cases c.new-args.ensures (c.ask_for.ensures next)
