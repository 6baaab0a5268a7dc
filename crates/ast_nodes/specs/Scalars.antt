-- Values without parts.
use Rattle.std.specs.Prelude.{Bool, true, false}
use Rattle.rhai_base.specs.Value.{Value, UnitV, BoolV, IntV, FloatV, CharV}

abbrev pub is_scalar : Value → Bool
is_scalar UnitV = true
is_scalar (BoolV b) = true
is_scalar (IntV n) = true
is_scalar (FloatV x) = true
is_scalar (CharV c) = true
is_scalar _ = false
