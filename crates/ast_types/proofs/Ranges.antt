-- The arm that a range names.
use Rattle.std.proofs.Common.{◌≡◌, refl}
use Rattle.rhai_base.specs.declared.range_case.RangeCase.{RangeCase}
use Rattle.rhai_base.specs.declared.range_case.RangeCase.TheVariants.{ExclusiveInt, InclusiveInt}
use Rattle.rhai_base.specs.Ranges.{index_of}
use Rattle.ast_types.specs.Reading.{range_of}

pub range_arm : (r : RangeCase) → (range_of r).arm ≡ index_of r
range_arm (ExclusiveInt r i) = refl
range_arm (InclusiveInt r i) = refl
