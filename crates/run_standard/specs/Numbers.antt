-- What rhai's standard functions answer for integers and ranges.
use Rattle.std.specs.Prelude.{ℕ, ℤ, pos, neg_ℤ, Bool, true, false, not, ◌&&◌, ◌||◌, List, [], ◌∷◌, Option, Some, None, codes, int_lt, int_le, int_rem, unsigned_abs, nat_lt, if◌then◌else◌}
use Rattle.std.specs.Int.{int_min, int_max, int_signum, int_pow, int_shl, int_shr, w64}
use Rattle.rhai_base.specs.Value.{Text, Value, same_int, same_text}
use Rattle.rhai_base.specs.Operators.{fits}
use Rattle.theory_meaning.specs.Act.{Answer}
use Rattle.run_standard.specs.Forms.{gives_bool, gives_int, gives_range, throws, int_of}
use Rattle.run_standard.specs.Bits.{get_bit, bool_of, with_two}

-- a number of 64 bits, or the fault that there is none, which operators throw so too
abbrev pub fitting : ℤ → Option Answer
fitting n = if fits n then gives_int n else throws (codes "arithmetic")

-- the same of what is checked
abbrev pub number_or_throw : Option ℤ → Option Answer
number_or_throw (Some n) = gives_int n
number_or_throw None = throws (codes "arithmetic")

abbrev pub absolute : ℤ → Option Answer
absolute n = if int_lt n (pos 0) then fitting (neg_ℤ n) else gives_int n

abbrev pub is_even : ℤ → Bool
is_even n = same_int (int_rem n (pos 2)) (pos 0)

abbrev pub alone : Text → ℤ → Option Answer
alone f n =
    if same_text f (codes "-") then fitting (neg_ℤ n)
    else if same_text f (codes "+") then gives_int n
    else if same_text f (codes "abs") then absolute n
    else if same_text f (codes "sign") then gives_int (int_signum n)
    else if same_text f (codes "is_odd") then gives_bool (not (is_even n))
    else if same_text f (codes "get$is_odd") then gives_bool (not (is_even n))
    else if same_text f (codes "is_even") then gives_bool (is_even n)
    else if same_text f (codes "get$is_even") then gives_bool (is_even n)
    else if same_text f (codes "is_zero") then gives_bool (same_int n (pos 0))
    else if same_text f (codes "get$is_zero") then gives_bool (same_int n (pos 0))
    else None

-- to a power of at most 32 bits that is not negative
abbrev pub power : ℤ → ℤ → Option Answer
power n m =
    if int_lt m (pos 0) || nat_lt 4294967295 (unsigned_abs m) then throws (codes "arithmetic")
    else fitting (int_pow n (unsigned_abs m))

-- past all bits nothing is left, and but the sign to the right
abbrev pub shifted_by : Bool → ℤ → ℕ → ℤ
shifted_by true n k = if nat_lt k 64 then int_shl w64 n k else pos 0
shifted_by false n k = if nat_lt k 64 then int_shr n k else int_shr n 63

-- a negative number of bits shifts the other way
abbrev pub shifted : Bool → ℤ → ℤ → ℤ
shifted to_left n m =
    if int_lt m (pos 0) then shifted_by (not to_left) n (unsigned_abs m) else shifted_by to_left n (unsigned_abs m)

abbrev pub with_int : Text → ℤ → ℤ → Option Answer
with_int f n m =
    if same_text f (codes "min") then gives_int (int_min n m)
    else if same_text f (codes "max") then gives_int (int_max n m)
    else if same_text f (codes "range") then gives_range n m
    else if same_text f (codes "**") then power n m
    else if same_text f (codes "get_bit") then get_bit n m
    else if same_text f (codes "<<") then gives_int (shifted true n m)
    else if same_text f (codes ">>") then gives_int (shifted false n m)
    else None

abbrev pub with_one : Text → ℤ → Option ℤ → Option Answer
with_one f n None = None
with_one f n (Some m) = with_int f n m

abbrev pub on_int : Text → ℤ → List Value → Option Answer
on_int f n [] = alone f n
on_int f n (v ∷ []) = with_one f n (int_of v)
on_int f n (v ∷ w ∷ []) = with_two f n (int_of v) (bool_of w)
on_int f n _ = None

-- ---- ranges, with their end or without

abbrev pub is_at_most : Bool → ℤ → ℤ → Bool
is_at_most true n m = int_le n m
is_at_most false n m = int_lt n m

abbrev pub range_alone : Text → Bool → ℤ → ℤ → Option Answer
range_alone f inclusive a b =
    if same_text f (codes "start") then gives_int a
    else if same_text f (codes "get$start") then gives_int a
    else if same_text f (codes "end") then gives_int b
    else if same_text f (codes "get$end") then gives_int b
    else if same_text f (codes "is_inclusive") then gives_bool inclusive
    else if same_text f (codes "get$is_inclusive") then gives_bool inclusive
    else if same_text f (codes "is_exclusive") then gives_bool (not inclusive)
    else if same_text f (codes "get$is_exclusive") then gives_bool (not inclusive)
    else if same_text f (codes "is_empty") then gives_bool (not (is_at_most inclusive a b))
    else if same_text f (codes "get$is_empty") then gives_bool (not (is_at_most inclusive a b))
    else None

abbrev pub range_with_one : Text → Bool → ℤ → ℤ → Option ℤ → Option Answer
range_with_one f inclusive a b None = None
range_with_one f inclusive a b (Some n) =
    if same_text f (codes "contains") then gives_bool (int_le a n && is_at_most inclusive n b) else None

abbrev pub on_range : Text → Bool → ℤ → ℤ → List Value → Option Answer
on_range f inclusive a b [] = range_alone f inclusive a b
on_range f inclusive a b (v ∷ []) = range_with_one f inclusive a b (int_of v)
on_range f inclusive a b _ = None
