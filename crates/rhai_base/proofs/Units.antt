-- Which values are unit.
use Rattle.std.proofs.Common.{◌≡◌, false, refl}
use Rattle.rhai_base.specs.declared.dynamic.Dynamic.{Dynamic}
use Rattle.rhai_base.specs.declared.dynamic.Dynamic.TheVariants as value
use Rattle.rhai_base.specs.Reading.{value_of, DynamicCase, unit_case, dynamic_cases}
use Rattle.rhai_base.specs.Value.{Value, is_unit}

not_unit : {v : Dynamic} {w : Value} → DynamicCase v w → (v ≡ value.Unit → ⊥) → is_unit w ≡ false
not_unit unit_case h = absurd (h refl)
not_unit _ h = refl

pub is_unit-other : (v : Dynamic) → (v ≡ value.Unit → ⊥) → is_unit (value_of v) ≡ false
is_unit-other v h = not_unit (dynamic_cases v) h
