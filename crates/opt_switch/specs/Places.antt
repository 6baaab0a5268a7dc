-- The places of the arms that entries of a table name.
use Rattle.std.specs.Prelude.{◌≡◌, ℕ, cond, Option, Some, None}
use Rattle.std.specs.Fn.{FnReturnsAt}
use denote.Param.Members.{Shared}
use denote.Ref.{Bor}
use Rattle.rhai_base.specs.Ranges.{holds_value, index_of}
use Rattle.rhai_base.specs.Value.{Value}
use Rattle.rhai_base.specs.declared.range_case.RangeCase.{RangeCase}

-- what a closure answers at each entry
abbrev pub Tells : {F T R : Type 0} → Shared F (Bor T × Unit {0}) R → F → (T → R) → Type 0
Tells {T = T} {R = R} calls f g = (x : T) (r : R) → FnReturnsAt calls f x r → r ≡ g x

-- the arm of a range that holds a value
abbrev pub held_place : Value → RangeCase → Option ℕ
held_place v r = cond (holds_value r v) (Some (index_of r)) None
