-- What rhai's standard functions answer for the bits of integers: from the lowest, 0 to 63, or from the highest, -1 to -64.
use Rattle.std.specs.Prelude.{ℕ, ℤ, pos, Bool, Option, Some, None, codes, if◌then◌else◌}
use Rattle.std.specs.Int.{int_bit_and, int_bit_or, int_bit_not, int_shl, w64}
use Rattle.rhai_base.specs.Value.{Text, Value, UnitV, BoolV, IntV, same_text}
use Rattle.theory_meaning.specs.Act.{Answer}
use Rattle.theory_meaning.specs.Elements.{bit, index_in}
use Rattle.run_standard.specs.Forms.{gives, leaves, throws}

abbrev pub bit_or_throw : Option Value → Option Answer
bit_or_throw None = throws (codes "bit bounds")
bit_or_throw (Some v) = gives v

abbrev pub get_bit : ℤ → ℤ → Option Answer
get_bit n i = bit_or_throw (bit n i)

-- the number whose one bit is this
abbrev pub lone_bit : ℕ → ℤ
lone_bit k = int_shl w64 (pos 1) k

abbrev pub with_bit : ℤ → ℕ → Bool → ℤ
with_bit n k b = if b then int_bit_or w64 n (lone_bit k) else int_bit_and w64 n (int_bit_not w64 (lone_bit k))

abbrev pub set_bit_at : ℤ → Bool → Option ℕ → Option Answer
set_bit_at n b None = throws (codes "bit bounds")
set_bit_at n b (Some k) = leaves UnitV (IntV (with_bit n k b))

abbrev pub bool_of : Value → Option Bool
bool_of (BoolV b) = Some b
bool_of _ = None

abbrev pub set_bit : ℤ → Option ℤ → Option Bool → Option Answer
set_bit n (Some i) (Some b) = set_bit_at n b (index_in 64 i)
set_bit n _ _ = None

abbrev pub with_two : Text → ℤ → Option ℤ → Option Bool → Option Answer
with_two f n i b =
    if same_text f (codes "set_bit") then set_bit n i b
    else if same_text f (codes "index$set$") then set_bit n i b
    else None
