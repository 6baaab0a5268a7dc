-- The keys and the values that the declared ones stand for.
use Rattle.std.specs.Prelude.{Option, Some, None}
use Rattle.rhai_base.specs.Reading.{value_of}
use Rattle.rhai_base.specs.Value.{Value, UnitV}
use Rattle.theory_meaning.specs.Places as places
use Rattle.run_places.specs.declared.standing.Part.{Part}
use Rattle.run_places.specs.declared.standing.Part.TheVariants.{Stored, Missing}
use Rattle.run_places.specs.declared.places.PlaceKey.{PlaceKey}
use Rattle.run_places.specs.declared.places.PlaceKey.TheVariants.{AtIndex, AtEntry}

abbrev pub key_meant : PlaceKey → places.PlaceKey
key_meant (AtIndex i) = places.AtIndex i
key_meant (AtEntry k) = places.AtEntry k

-- what stands at a place, or unit
abbrev pub or_unit : Option Value → Value
or_unit None = UnitV
or_unit (Some v) = v

abbrev pub part_value : Part → Value
part_value (Stored v) = value_of v.now
part_value Missing = UnitV
