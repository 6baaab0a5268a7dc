-- What rhai's standard functions answer for an array.
use Rattle.std.specs.Prelude.{ℕ, ◌+◌, ℤ, pos, negsuc, ◌==◌, Bool, ◌&&◌, List, [], ◌∷◌, ◌++◌, length, take, reverse, slice_index_or, Option, Some, None, codes, nat_lt, if◌then◌else◌}
use Rattle.std.specs.List.{insert, remove}
use Rattle.std.specs.Option.{is_some}
use Rattle.rhai_base.specs.Value.{Text, Value, UnitV, ArrayV, items, values, same, same_text, is_hashable}
use Rattle.theory_meaning.specs.Act.{Answer}
use Rattle.run_standard.specs.Forms.{gives, gives_unit, gives_bool, gives_int, leaves, int_of, kept, place_in, are_comparable}

-- a value, and the array has these items from now on
abbrev pub leaves_items : Value → List Value → Option Answer
leaves_items v vs = leaves v (ArrayV (values vs))

-- the item there is taken away and answered
abbrev pub taken_at : List Value → ℕ → Option Answer
taken_at vs k = leaves_items (slice_index_or vs k UnitV) (remove vs k)

-- unit past the end; before the start, the first one
abbrev pub taken_if_there : List Value → ℕ → Option Answer
taken_if_there vs k = if nat_lt k (length vs) then taken_at vs k else gives_unit

abbrev pub taken : List Value → ℤ → Option Answer
taken vs i = taken_if_there vs (place_in (length vs) i)

abbrev pub alone : Text → List Value → Option Answer
alone f vs =
    if same_text f (codes "len") then gives_int (pos (length vs))
    else if same_text f (codes "get$len") then gives_int (pos (length vs))
    else if same_text f (codes "is_empty") then gives_bool (length vs == 0)
    else if same_text f (codes "get$is_empty") then gives_bool (length vs == 0)
    else if same_text f (codes "pop") then taken vs (negsuc 0)
    else if same_text f (codes "shift") then taken vs (pos 0)
    else if same_text f (codes "clear") then leaves_items UnitV []
    else if same_text f (codes "reverse") then leaves_items UnitV (reverse vs)
    else None

-- an array's items, or another value alone
abbrev pub behind : Value → List Value
behind (ArrayV vs) = items vs
behind v = v ∷ []

-- the items of another array go behind those of this one
abbrev pub appended : List Value → Value → Option Answer
appended vs (ArrayV ws) = leaves_items UnitV (vs ++ items ws)
appended vs _ = None

abbrev pub removed : List Value → Option ℤ → Option Answer
removed vs None = None
removed vs (Some i) = taken vs i

abbrev pub truncated : List Value → Option ℤ → Option Answer
truncated vs None = None
truncated vs (Some n) = leaves_items UnitV (take (kept n) vs)

-- the place of the first item that is equal, counted from a number on
abbrev pub place_of : ℕ → List Value → Value → Option ℕ
place_of i [] v = None
place_of i (w ∷ ws) v = if same w v then Some i else place_of (i + 1) ws v

-- -1 for none
abbrev pub index_at : Option ℕ → ℤ
index_at None = negsuc 0
index_at (Some i) = pos i

abbrev pub comparable_with : List Value → Value → Bool
comparable_with vs v = is_hashable v && are_comparable vs

abbrev pub contains : List Value → Value → Option Answer
contains vs v = if comparable_with vs v then gives_bool (is_some (place_of 0 vs v)) else None

abbrev pub index_of : List Value → Value → Option Answer
index_of vs v = if comparable_with vs v then gives_int (index_at (place_of 0 vs v)) else None

-- `+` is asked for `+=` too, which adds what is no array as one item; rhai's own `+` has no such function
abbrev pub with_one : Text → List Value → Value → Option Answer
with_one f vs v =
    if same_text f (codes "push") then leaves_items UnitV (vs ++ v ∷ [])
    else if same_text f (codes "append") then appended vs v
    else if same_text f (codes "+") then gives (ArrayV (values (vs ++ behind v)))
    else if same_text f (codes "+=") then gives (ArrayV (values (vs ++ behind v)))
    else if same_text f (codes "remove") then removed vs (int_of v)
    else if same_text f (codes "truncate") then truncated vs (int_of v)
    else if same_text f (codes "contains") then contains vs v
    else if same_text f (codes "index_of") then index_of vs v
    else None

-- before the item there, at the start or at the end where the index is past it
abbrev pub inserted : List Value → Option ℤ → Value → Option Answer
inserted vs None v = None
inserted vs (Some i) v = leaves_items UnitV (insert vs (place_in (length vs) i) v)

abbrev pub with_two : Text → List Value → Value → Value → Option Answer
with_two f vs v w = if same_text f (codes "insert") then inserted vs (int_of v) w else None

-- an array's items, and the arguments after it
abbrev pub on_array : Text → List Value → List Value → Option Answer
on_array f vs [] = alone f vs
on_array f vs (v ∷ []) = with_one f vs v
on_array f vs (v ∷ w ∷ []) = with_two f vs v w
on_array f vs _ = None
