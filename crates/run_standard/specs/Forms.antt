-- What answers are made of: none where no function fits.
use Rattle.std.specs.Prelude.{ℕ, suc, ◌-◌, ℤ, pos, negsuc, Bool, true, ◌&&◌, List, [], ◌∷◌, Option, Some, None, nat_lt, if◌then◌else◌}
use Rattle.rhai_base.specs.Value.{Text, Value, UnitV, BoolV, IntV, TextV, RangeV, is_hashable}
use Rattle.theory_meaning.specs.Act.{Answer, Answers, AnswersThrow}

-- a value, and what the function is called on stays
abbrev pub gives : Value → Option Answer
gives v = Some (Answers v None)

-- a value, and the new value of what the function is called on
abbrev pub leaves : Value → Value → Option Answer
leaves v new = Some (Answers v (Some new))

abbrev pub gives_unit : Option Answer
gives_unit = gives UnitV

abbrev pub gives_bool : Bool → Option Answer
gives_bool b = gives (BoolV b)

abbrev pub gives_int : ℤ → Option Answer
gives_int n = gives (IntV n)

abbrev pub gives_range : ℤ → ℤ → Option Answer
gives_range a b = gives (RangeV a b)

abbrev pub gives_text : Text → Option Answer
gives_text t = gives (TextV t)

abbrev pub throws : Text → Option Answer
throws t = Some (AnswersThrow (TextV t))

-- ---- arguments

abbrev pub int_of : Value → Option ℤ
int_of (IntV n) = Some n
int_of _ = None

-- a number of things to keep: none where it is negative
abbrev pub kept : ℤ → ℕ
kept (pos n) = n
kept (negsuc n) = 0

-- of n things the place before which something goes, from the end where the index is negative
abbrev pub place_in : ℕ → ℤ → ℕ
place_in n (pos i) = if nat_lt i n then i else n
place_in n (negsuc i) = n - suc i

-- equal or not is known of values that hold no float and no pointer
abbrev pub are_comparable : List Value → Bool
are_comparable [] = true
are_comparable (v ∷ vs) = is_hashable v && are_comparable vs
