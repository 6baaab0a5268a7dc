-- Elements, entries, characters and bits: one part of a value, read and written.
use Rattle.std.specs.Prelude.{ℕ, zero, suc, ◌-◌, ◌/◌, ◌%◌, ◌^◌, List, [], ◌∷◌, length, Option, Some, None, ℤ, pos, negsuc, ◌==◌, nat_lt, slice_get, if◌then◌else◌, option_map}
use Rattle.std.specs.Str.{chars}
use Rattle.rhai_base.specs.Value.{Text, Value, Values, Fields, UnitV, BoolV, CharV, no_values, item, no_fields, field, same_text}
use Rattle.rhai_base.specs.Operators.{bits_of, text_lt}

abbrev pub if_below : ℕ → ℕ → Option ℕ
if_below i n = if nat_lt i n then Some i else None

-- of n things the one at an index, from the end where it is negative
abbrev pub index_in : ℕ → ℤ → Option ℕ
index_in n (pos i) = if_below i n
index_in n (negsuc i) = if nat_lt i n then Some (n - suc i) else None

abbrev pub count : Values → ℕ
count no_values = 0
count (item v vs) = suc (count vs)

abbrev pub value_at : Values → ℕ → Option Value
value_at no_values i = None
value_at (item v vs) zero = Some v
value_at (item v vs) (suc i) = value_at vs i

abbrev pub with_value_at : Values → ℕ → Value → Values
with_value_at no_values i w = no_values
with_value_at (item v vs) zero w = item w vs
with_value_at (item v vs) (suc i) w = item v (with_value_at vs i w)

abbrev pub at_index : {A B : Type 0} → Option A → (A → Option B) → Option B
at_index None f = None
at_index (Some a) f = f a

abbrev pub element : Values → ℤ → Option Value
element vs i = at_index (index_in (count vs) i) (value_at vs)

abbrev pub with_element : Values → ℤ → Value → Option Values
with_element vs i w = option_map (λ k. with_value_at vs k w) (index_in (count vs) i)

-- unit where the key is missing
abbrev pub entry : Fields → Text → Value
entry no_fields k = UnitV
entry (field l v fs) k = if same_text l k then v else entry fs k

-- keys stay in order, and a missing one is added
abbrev pub with_entry : Fields → Text → Value → Fields
with_entry no_fields k w = field k w no_fields
with_entry (field l v fs) k w =
    if same_text l k then field k w fs
    else (if text_lt k l then field k w (field l v fs) else field l v (with_entry fs k w))

-- entries added one after another, the later of two with one key in place of the earlier
abbrev pub with_entries : Fields → List (Text × Value) → Fields
with_entries fs [] = fs
with_entries fs (p ∷ ps) = with_entries (with_entry fs p.0 p.1) ps

abbrev pub fields_of : List (Text × Value) → Fields
fields_of ps = with_entries no_fields ps

unfoldable pub character : Text → ℤ → Option Value
unfolding chars
character t i = at_index (index_in (length (chars t)) i) (λ k. option_map CharV (slice_get (chars t) k))

-- from the lowest, 0 to 63, or from the highest, -1 to -64
abbrev pub bit : ℤ → ℤ → Option Value
bit n i = option_map (λ k. BoolV (bits_of n / 2 ^ k % 2 == 1)) (index_in 64 i)
