-- Ranges in the operators' table.
use Rattle.std.proofs.Common.{◌≡◌, Bool, true, false, refl}
use Rattle.rhai_base.specs.Value.{Value, UnitV, BoolV, IntV, FloatV, CharV, TextV, ArrayV, MapV, PointerV, RangeV, RangeInclusiveV}
use Rattle.rhai_base.specs.Operators.{binary, on_chars}
use Rattle.rhai_base.specs.Builtin.{range_operator, range_between}

-- the ranges' rows of the table, from the ends
pub range_row : (inclusive : Bool) (v w : Value) → range_between inclusive v w ≡ binary (range_operator inclusive) v w
unfolding binary on_chars
range_row true UnitV UnitV = refl
range_row true (BoolV b) UnitV = refl
range_row true (IntV n) UnitV = refl
range_row true (FloatV x) UnitV = refl
range_row true (CharV c) UnitV = refl
range_row true (TextV t) UnitV = refl
range_row true (ArrayV vs) UnitV = refl
range_row true (MapV fs) UnitV = refl
range_row true (PointerV f vs) UnitV = refl
range_row true (RangeV a b) UnitV = refl
range_row true (RangeInclusiveV a b) UnitV = refl
range_row true v w = refl
range_row false UnitV UnitV = refl
range_row false (BoolV b) UnitV = refl
range_row false (IntV n) UnitV = refl
range_row false (FloatV x) UnitV = refl
range_row false (CharV c) UnitV = refl
range_row false (TextV t) UnitV = refl
range_row false (ArrayV vs) UnitV = refl
range_row false (MapV fs) UnitV = refl
range_row false (PointerV f vs) UnitV = refl
range_row false (RangeV a b) UnitV = refl
range_row false (RangeInclusiveV a b) UnitV = refl
range_row false v w = refl
