-- What rhai's standard functions answer for a text. Places and numbers are those of characters.
use Rattle.std.specs.Prelude.{ℕ, zero, suc, ◌+◌, ◌-◌, ℤ, pos, negsuc, ◌==◌, Bool, ◌&&◌, List, [], ◌∷◌, ◌++◌, length, take, drop, slice_get, slice_set, Option, Some, None, codes, nat_le, if◌then◌else◌, encode_utf8_all}
use Rattle.std.specs.Option.{is_some}
use Rattle.std.specs.Str.{chars, trim}
use Rattle.std.specs.StrCase.Upper.{str_to_uppercase}
use Rattle.std.specs.StrCase.Lower.{str_to_lowercase}
use Rattle.rhai_base.specs.Value.{Text, Value, UnitV, CharV, TextV, ArrayV, values, same_text, text_of}
use Rattle.theory_meaning.specs.Act.{Answer}
use Rattle.theory_meaning.specs.Elements.{index_in}
use Rattle.run_standard.specs.Forms.{gives, gives_bool, gives_int, gives_text, leaves, throws, int_of, kept, place_in}
use Rattle.run_standard.specs.Arrays.{index_at}
use Rattle.run_standard.specs.Numbers.{number_or_throw}
use Rattle.run_standard.specs.Reading.{number_read}

-- a value, and the text is this one from now on
abbrev pub leaves_text : Value → Text → Option Answer
leaves_text v t = leaves v (TextV t)

-- ---- characters

abbrev pub char_or_unit : Option ℕ → Value
char_or_unit (Some c) = CharV c
char_or_unit None = UnitV

-- the characters begin with a part
abbrev pub begins_with : List ℕ → List ℕ → Bool
begins_with part cs = nat_le (length part) (length cs) && same_text (take (length part) cs) part

-- the place of the first such part, counted from a number on
abbrev pub place_of_part : ℕ → List ℕ → List ℕ → Option ℕ
place_of_part i part [] = if begins_with part [] then Some i else None
place_of_part i part (c ∷ cs) = if begins_with part (c ∷ cs) then Some i else place_of_part (i + 1) part cs

-- an empty part stands before each character and at the end
abbrev pub kept_behind : List ℕ → ℕ → List ℕ
kept_behind part c = if length part == 0 then c ∷ [] else []

abbrev pub at_end : List ℕ → List ℕ → List ℕ
at_end part to = if length part == 0 then to else []

-- with others in place of each such part; so many characters are still to be left out
abbrev pub replaced : List ℕ → List ℕ → ℕ → List ℕ → List ℕ
replaced part to k [] = at_end part to
replaced part to (suc k) (c ∷ cs) = replaced part to k cs
replaced part to zero (c ∷ cs) =
    if begins_with part (c ∷ cs) then (to ++ kept_behind part c) ++ replaced part to (length part - 1) cs
    else c ∷ replaced part to zero cs

abbrev pub behind_last : List ℕ → List Value
behind_last part = if length part == 0 then TextV [] ∷ [] else []

-- what stands between such parts; so many characters are still to be left out, and these belong to the next piece
abbrev pub pieces : List ℕ → ℕ → List ℕ → List ℕ → List Value
pieces part k now [] = TextV (encode_utf8_all now) ∷ behind_last part
pieces part (suc k) now (c ∷ cs) = pieces part k now cs
pieces part zero now (c ∷ cs) =
    if begins_with part (c ∷ cs) then TextV (encode_utf8_all now) ∷ pieces part (length part - 1) (kept_behind part c) cs
    else pieces part zero (now ++ c ∷ []) cs

-- ---- functions

-- -1 for none, and in an empty text, which holds the empty part too
abbrev pub index_in_text : List ℕ → List ℕ → ℤ
index_in_text cs part = if length cs == 0 then negsuc 0 else index_at (place_of_part 0 part cs)

-- an empty text stays
abbrev pub replaced_in : List ℕ → List ℕ → List ℕ → List ℕ
replaced_in cs part to = if length cs == 0 then [] else replaced part to 0 cs

abbrev pub popped : List ℕ → Option Answer
popped cs = leaves_text (char_or_unit (slice_get cs (length cs - 1))) (encode_utf8_all (take (length cs - 1) cs))

abbrev pub alone : Text → Text → Option Answer
alone f t =
    if same_text f (codes "len") then gives_int (pos (length (chars t)))
    else if same_text f (codes "get$len") then gives_int (pos (length (chars t)))
    else if same_text f (codes "bytes") then gives_int (pos (length t))
    else if same_text f (codes "get$bytes") then gives_int (pos (length t))
    else if same_text f (codes "is_empty") then gives_bool (length t == 0)
    else if same_text f (codes "get$is_empty") then gives_bool (length t == 0)
    else if same_text f (codes "parse_int") then number_or_throw (number_read t)
    else if same_text f (codes "clear") then leaves_text UnitV []
    else if same_text f (codes "pop") then popped (chars t)
    else if same_text f (codes "trim") then leaves_text UnitV (trim t)
    else if same_text f (codes "to_upper") then gives_text (str_to_uppercase t)
    else if same_text f (codes "to_lower") then gives_text (str_to_lowercase t)
    else if same_text f (codes "make_upper") then leaves_text UnitV (str_to_uppercase t)
    else if same_text f (codes "make_lower") then leaves_text UnitV (str_to_lowercase t)
    else None

-- a text or a character, as characters
abbrev pub part_of : Value → Option (List ℕ)
part_of (TextV t) = Some (chars t)
part_of (CharV c) = Some (c ∷ [])
part_of _ = None

abbrev pub with_part : Text → List ℕ → Option (List ℕ) → Option Answer
with_part f cs None = None
with_part f cs (Some part) =
    if same_text f (codes "contains") then gives_bool (is_some (place_of_part 0 part cs))
    else if same_text f (codes "index_of") then gives_int (index_in_text cs part)
    else if same_text f (codes "remove") then leaves_text UnitV (encode_utf8_all (replaced_in cs part []))
    else if same_text f (codes "split") then gives (ArrayV (values (pieces part 0 [] cs)))
    else None

abbrev pub ends_with : Text → Text → Bool
ends_with t part = nat_le (length part) (length t) && same_text (drop (length t - length part) t) part

abbrev pub starts : Text → Value → Option Answer
starts t (TextV part) = gives_bool (begins_with part t)
starts t _ = None

abbrev pub ends : Text → Value → Option Answer
ends t (TextV part) = gives_bool (ends_with t part)
ends t _ = None

-- so many characters from a place on
abbrev pub sub_string : List ℕ → ℤ → ℤ → Text
sub_string cs i n = encode_utf8_all (take (kept n) (drop (place_in (length cs) i) cs))

abbrev pub from_place : List ℕ → Option ℤ → Option Answer
from_place cs None = None
from_place cs (Some i) = gives_text (encode_utf8_all (drop (place_in (length cs) i) cs))

abbrev pub truncated : List ℕ → Option ℤ → Option Answer
truncated cs None = None
truncated cs (Some n) = leaves_text UnitV (encode_utf8_all (take (kept n) cs))

abbrev pub with_one : Text → Text → Value → Option Answer
with_one f t v =
    if same_text f (codes "append") then leaves_text UnitV (t ++ text_of v)
    else if same_text f (codes "+=") then gives_text (t ++ text_of v)
    else if same_text f (codes "sub_string") then from_place (chars t) (int_of v)
    else if same_text f (codes "truncate") then truncated (chars t) (int_of v)
    else if same_text f (codes "starts_with") then starts t v
    else if same_text f (codes "ends_with") then ends t v
    else with_part f (chars t) (part_of v)

abbrev pub replaced_by : List ℕ → Option (List ℕ) → Option (List ℕ) → Option Answer
replaced_by cs (Some part) (Some to) = leaves_text UnitV (encode_utf8_all (replaced_in cs part to))
replaced_by cs _ _ = None

abbrev pub between : List ℕ → Option ℤ → Option ℤ → Option Answer
between cs (Some i) (Some n) = gives_text (sub_string cs i n)
between cs _ _ = None

-- a character in place of the one there
abbrev pub written_at : List ℕ → ℕ → Option ℕ → Option Answer
written_at cs c None = throws (codes "text bounds")
written_at cs c (Some k) = leaves_text UnitV (encode_utf8_all (slice_set cs k c))

abbrev pub char_of : Value → Option ℕ
char_of (CharV c) = Some c
char_of _ = None

abbrev pub written_by : List ℕ → Option ℤ → Option ℕ → Option Answer
written_by cs (Some i) (Some c) = written_at cs c (index_in (length cs) i)
written_by cs _ _ = None

abbrev pub written : List ℕ → Value → Value → Option Answer
written cs v w = written_by cs (int_of v) (char_of w)

abbrev pub with_two : Text → Text → Value → Value → Option Answer
with_two f t v w =
    if same_text f (codes "replace") then replaced_by (chars t) (part_of v) (part_of w)
    else if same_text f (codes "sub_string") then between (chars t) (int_of v) (int_of w)
    else if same_text f (codes "index$set$") then written (chars t) v w
    else None

abbrev pub on_text : Text → Text → List Value → Option Answer
on_text f t [] = alone f t
on_text f t (v ∷ []) = with_one f t v
on_text f t (v ∷ w ∷ []) = with_two f t v w
on_text f t _ = None
