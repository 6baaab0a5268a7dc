-- The values that declared answers stand for.
use Rattle.std.specs.Prelude.{Option, Some, None}
use Rattle.std.specs.declared.borrow.Cow.{Cow}
use Rattle.std.specs.Cow.{cow_value}
use Rattle.rhai_base.specs.declared.dynamic.Dynamic.{Dynamic}
use Rattle.rhai_base.specs.Reading.{value_of}
use Rattle.rhai_base.specs.Value.{Value}

-- the value of a lent or an owned one
abbrev pub lent_value : Option (Cow Dynamic) → Option Value
lent_value None = None
lent_value (Some v) = Some (value_of (cow_value v))
