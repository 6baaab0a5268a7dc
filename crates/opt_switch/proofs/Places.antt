-- The place of a range's arm.
use Rattle.std.proofs.Common.{◌≡◌, refl}
use Rattle.rhai_base.specs.Ranges.{index_of}
use Rattle.rhai_base.specs.declared.range_case.RangeCase.{RangeCase}
use Rattle.rhai_base.specs.declared.range_case.RangeCase.TheVariants as range_kind
use Rattle.ast_types.specs.Reading.{range_of}

pub place_is : (r : RangeCase) → index_of r ≡ (range_of r).arm
place_is (range_kind.ExclusiveInt r i) = refl
place_is (range_kind.InclusiveInt r i) = refl
