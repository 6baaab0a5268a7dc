-- Values by their kind.
use Rattle.std.proofs.Common.{◌≡◌, Bool, Option, Some, None, Ok, Err, refl}
use Rattle.rhai_base.specs.declared.dynamic.Dynamic.{Dynamic}
use Rattle.rhai_base.specs.declared.dynamic.Dynamic.TheVariants as value
use Rattle.rhai_base.specs.Reading.{value_of, DynamicCase, bool_case, dynamic_cases}
use Rattle.theory_meaning.specs.ActForms.{truth}
use Rattle.run_state.specs.declared.state.Interrupt.{Interrupt}
use Rattle.run_state.specs.declared.state.Interrupt.TheVariants.{Stuck}
use Rattle.run_host.specs.declared.report.Stuck.TheVariants as why
use Rattle.run_state.specs.Evaluating.{or_stuck}
use Rattle.rhai_base.specs.Value.{Value}

not_truth : {v : Dynamic} {w : Value} → DynamicCase v w → ((b : Bool) → v ≡ value.Bool b → ⊥) → truth w ≡ None
not_truth (bool_case b) h = absurd (h b refl)
not_truth _ h = refl

pub truth-other : (v : Dynamic) → ((b : Bool) → v ≡ value.Bool b → ⊥) → truth (value_of v) ≡ None
truth-other v h = not_truth (dynamic_cases v) h

-- a condition that is a bool, and one that is none
pub or_stuck-ok : (o : Option Bool) (b : Bool) → Ok b ≡ or_stuck o → o ≡ Some b
or_stuck-ok (Some c) b e = cc
or_stuck-ok None b e = cc

pub or_stuck-err : (o : Option Bool) (x : Interrupt) → Err x ≡ or_stuck o → (o ≡ None) × (x ≡ Stuck why.WrongKind)
or_stuck-err (Some c) x e = cc
or_stuck-err None x e = (refl, cc)
