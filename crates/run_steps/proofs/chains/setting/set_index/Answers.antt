use Rattle.std.proofs.Common.{[], ◌∷◌, Err, refl, arith}
use Rattle.std.specs.Prelude.{codes}
use Rattle.theory_meaning.specs.Act.{Throws}
use Rattle.theory_meaning.specs.ActForms.{throw}
use Rattle.theory_meaning.specs.Chains.{set_by_host}
use Rattle.run_places.specs.Reading.{part_value}
use Rattle.rhai_base.specs.Reading.{value_of}
use Rattle.rhai_base.specs.Value.{TextV, UnitV}
use Rattle.run_steps.specs.declared.steps.placing.Current.TheVariants as kind
use Rattle.run_steps.specs.Setting.{setting}
use Rattle.run_steps.specs.Placing.{current_in, place_meant}
use Rattle.run_state.specs.Runs.{Acting, Leaving, given}
use Rattle.run_state.specs.State.{store_of}
use Rattle.run_steps.proofs.Chaining.{set_index_as}
use Rattle.run_state.proofs.Goes.{stops_by}
use Rattle.run_steps.proofs.chains.setting.set_index.Goals as goal

pub returns-in-Part : goal.returns-in-Part
returns-in-Part g c =
    let here = (setting g.H.Host.answers g.H.Host.modules c.args.machine.now) in
    let at = current_in here (store_of c.args.state.now) (kind.At c.args.place) in
    set_index_as here c.args.state.now _ c.write_under.result (λ z. given UnitV) at (value_of c.args.index_value) (value_of c.args.value) (part_value c.place_part.result) (place_meant c.args.place) _ c.place_part.ensures (c.in-Part.ensures (value_of c.args.value) (place_meant c.args.place) at) c.write_under.ensures

pub returns-in-AsksHost : goal.returns-in-AsksHost
returns-in-AsksHost g c =
    let here = (setting g.H.Host.answers g.H.Host.modules c.args.machine.now) in
    let at = current_in here (store_of c.args.state.now) (kind.At c.args.place) in
    set_index_as here c.args.state.now _ c.set_index_by_host.result (λ z. given UnitV) at (value_of c.args.index_value) (value_of c.args.value) (part_value c.place_part.result) (place_meant c.args.place) (set_by_host (codes "index$set$") (value_of c.in-AsksHost.index_value ∷ value_of c.args.value ∷ []) at) c.place_part.ensures (c.in-AsksHost.ensures (value_of c.args.value) (place_meant c.args.place) at) c.set_index_by_host.ensures

pub returns-in_ok-thrown-in-Throws : goal.returns-in_ok-thrown-in-Throws
returns-in_ok-thrown-in-Throws g c =
    let here = (setting g.H.Host.answers g.H.Host.modules c.args.machine.now) in
    let s = c.args.state.now in
    let at = current_in here (store_of s) (kind.At c.args.place) in
    let x = c.in_ok-thrown-in-Throws.field-0 in
    let t = c.in-Throws.text.now in
    set_index_as {T = Unit} here s s (Err x) (λ z. given UnitV) at (value_of c.args.index_value) (value_of c.args.value) (part_value c.place_part.result) (place_meant c.args.place) (throw t) c.place_part.ensures (c.in-Throws.ensures (value_of c.args.value) (place_meant c.args.place) at)
    (stops_by here (Acting (throw t)) s s x (Leaving (Throws (TextV t))) c.in_ok-thrown-in-Throws.ensures (record { turns = omega arith; runs = λ d le. refl }))
