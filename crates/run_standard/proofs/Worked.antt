-- One call of each standard function, and what it answers.
use Rattle.std.specs.Prelude.{◌≡◌, ℕ, true, false, List, [], ◌∷◌, Some, None, pos, negsuc, codes, refl}
use Prim.Native.String.{String}
use Rattle.std.specs.Char.{encode_utf8}
use Rattle.std.specs.Str.{chars, trim_start, trim_end}
use Rattle.std.specs.StrCase.Upper.{str_to_uppercase}
use Rattle.std.specs.StrCase.Lower.{str_to_lowercase}
use Rattle.rhai_base.specs.Value.{Value, UnitV, BoolV, IntV, CharV, TextV, ArrayV, MapV, RangeV, RangeInclusiveV, values, fields, form, text_of}
use Rattle.theory_meaning.specs.Act.{Answer, Answers, AnswersThrow}
use Rattle.run_standard.specs.Standard.{standard_answer}

-- ---- short forms

-- a call without a receiver, and one on a value
abbrev plain : String → List Value → Answer
plain f vs = standard_answer (record { name = codes f; receiver = None; arguments = vs })

abbrev on : Value → String → List Value → Answer
on v f vs = standard_answer (record { name = codes f; receiver = Some v; arguments = vs })

abbrev i : ℕ → Value
i n = IntV (pos n)

abbrev minus_one : Value
minus_one = IntV (negsuc 0)

abbrev t : String → Value
t s = TextV (codes s)

abbrev list : List Value → Value
list vs = ArrayV (values vs)

abbrev one_two : Value
one_two = list (i 1 ∷ i 2 ∷ [])

abbrev only : Value → Answer
only v = Answers v None

abbrev becomes : Value → Value → Answer
becomes v new = Answers v (Some new)

-- #{a: 1, b: 2}
abbrev a_and_b : Value
a_and_b = MapV (fields ((codes "a", i 1) ∷ (codes "b", i 2) ∷ []))

-- ---- any values

printed : plain "print" (i 1 ∷ []) ≡ only UnitV
printed = refl

printed_nothing : plain "print" [] ≡ only UnitV
printed_nothing = refl

debugged : plain "debug" (i 1 ∷ []) ≡ only UnitV
debugged = refl

text_of_bool : on (BoolV true) "to_string" [] ≡ only (t "true")
unfolding text_of form
text_of_bool = refl

equal_arrays : plain "==" (one_two ∷ one_two ∷ []) ≡ only (BoolV true)
equal_arrays = refl

unequal_arrays : plain "!=" (one_two ∷ one_two ∷ []) ≡ only (BoolV false)
unequal_arrays = refl

joined_text : plain "+" (t "a" ∷ BoolV true ∷ []) ≡ only (t "atrue")
unfolding text_of form
joined_text = refl

-- ---- integers

negated : plain "-" (i 1 ∷ []) ≡ only minus_one
negated = refl

as_it_is : plain "+" (i 1 ∷ []) ≡ only (i 1)
as_it_is = refl

absolute : on minus_one "abs" [] ≡ only (i 1)
absolute = refl

absolute_of_the_least : plain "abs" (IntV (negsuc 9223372036854775807) ∷ []) ≡ AnswersThrow (t "arithmetic")
absolute_of_the_least = refl

sign : on (i 7) "sign" [] ≡ only (i 1)
sign = refl

odd : on (i 7) "is_odd" [] ≡ only (BoolV true)
odd = refl

even : on (i 7) "is_even" [] ≡ only (BoolV false)
even = refl

zero_or_not : on (i 7) "is_zero" [] ≡ only (BoolV false)
zero_or_not = refl

lesser : plain "min" (i 7 ∷ i 3 ∷ []) ≡ only (i 3)
lesser = refl

greater : plain "max" (i 7 ∷ i 3 ∷ []) ≡ only (i 7)
greater = refl

power : plain "**" (i 2 ∷ i 10 ∷ []) ≡ only (i 1024)
power = refl

negative_power : plain "**" (i 2 ∷ minus_one ∷ []) ≡ AnswersThrow (t "arithmetic")
negative_power = refl

left : plain "<<" (i 3 ∷ i 2 ∷ []) ≡ only (i 12)
left = refl

right : plain ">>" (i 12 ∷ i 2 ∷ []) ≡ only (i 3)
right = refl

past_all_bits : plain ">>" (minus_one ∷ i 64 ∷ []) ≡ only minus_one
past_all_bits = refl

shifted_the_other_way : plain "<<" (i 12 ∷ minus_one ∷ []) ≡ only (i 6)
shifted_the_other_way = refl

-- ---- bits

lowest_bit : plain "get_bit" (i 5 ∷ i 0 ∷ []) ≡ only (BoolV true)
lowest_bit = refl

highest_bit : on minus_one "get_bit" (minus_one ∷ []) ≡ only (BoolV true)
highest_bit = refl

no_bit : on (i 5) "get_bit" (i 64 ∷ []) ≡ AnswersThrow (t "bit bounds")
no_bit = refl

bit_set : on (i 5) "set_bit" (i 1 ∷ BoolV true ∷ []) ≡ becomes UnitV (i 7)
bit_set = refl

bit_cleared : on (i 5) "index$set$" (i 0 ∷ BoolV false ∷ []) ≡ becomes UnitV (i 4)
bit_cleared = refl

-- ---- ranges

range : plain "range" (i 1 ∷ i 4 ∷ []) ≡ only (RangeV (pos 1) (pos 4))
range = refl

start : on (RangeV (pos 1) (pos 4)) "get$start" [] ≡ only (i 1)
start = refl

end : on (RangeV (pos 1) (pos 4)) "end" [] ≡ only (i 4)
end = refl

inclusive : on (RangeV (pos 1) (pos 4)) "is_inclusive" [] ≡ only (BoolV false)
inclusive = refl

exclusive : on (RangeV (pos 1) (pos 4)) "is_exclusive" [] ≡ only (BoolV true)
exclusive = refl

empty_range : on (RangeV (pos 4) (pos 4)) "is_empty" [] ≡ only (BoolV true)
empty_range = refl

within_range : plain "contains" (RangeInclusiveV (pos 1) (pos 4) ∷ i 4 ∷ []) ≡ only (BoolV true)
within_range = refl

-- ---- arrays

length_of_array : plain "len" (one_two ∷ []) ≡ only (i 2)
length_of_array = refl

length_by_property : on one_two "get$len" [] ≡ only (i 2)
length_by_property = refl

empty_array : on one_two "is_empty" [] ≡ only (BoolV false)
empty_array = refl

pushed : on one_two "push" (i 3 ∷ []) ≡ becomes UnitV (list (i 1 ∷ i 2 ∷ i 3 ∷ []))
pushed = refl

pushed_without_receiver : plain "push" (one_two ∷ i 3 ∷ []) ≡ only UnitV
pushed_without_receiver = refl

appended : on one_two "append" (one_two ∷ []) ≡ becomes UnitV (list (i 1 ∷ i 2 ∷ i 1 ∷ i 2 ∷ []))
appended = refl

added_arrays : plain "+" (one_two ∷ one_two ∷ []) ≡ only (list (i 1 ∷ i 2 ∷ i 1 ∷ i 2 ∷ []))
added_arrays = refl

added_item : plain "+=" (one_two ∷ i 3 ∷ []) ≡ only (list (i 1 ∷ i 2 ∷ i 3 ∷ []))
added_item = refl

popped : on one_two "pop" [] ≡ becomes (i 2) (list (i 1 ∷ []))
popped = refl

popped_of_none : on (list []) "pop" [] ≡ only UnitV
popped_of_none = refl

shifted : on one_two "shift" [] ≡ becomes (i 1) (list (i 2 ∷ []))
shifted = refl

inserted : on one_two "insert" (i 1 ∷ t "x" ∷ []) ≡ becomes UnitV (list (i 1 ∷ t "x" ∷ i 2 ∷ []))
inserted = refl

removed : on one_two "remove" (minus_one ∷ []) ≡ becomes (i 2) (list (i 1 ∷ []))
removed = refl

removed_past_the_end : on one_two "remove" (i 2 ∷ []) ≡ only UnitV
removed_past_the_end = refl

cleared : on one_two "clear" [] ≡ becomes UnitV (list [])
cleared = refl

truncated : on one_two "truncate" (i 1 ∷ []) ≡ becomes UnitV (list (i 1 ∷ []))
truncated = refl

reversed : on one_two "reverse" [] ≡ becomes UnitV (list (i 2 ∷ i 1 ∷ []))
reversed = refl

contained : plain "contains" (one_two ∷ i 2 ∷ []) ≡ only (BoolV true)
contained = refl

index : on one_two "index_of" (i 3 ∷ []) ≡ only minus_one
index = refl

index_from_the_end : on one_two "remove" (IntV (negsuc 8) ∷ []) ≡ becomes (i 1) (list (i 2 ∷ []))
index_from_the_end = refl

-- ---- maps

length_of_map : on a_and_b "len" [] ≡ only (i 2)
length_of_map = refl

empty_map : on a_and_b "is_empty" [] ≡ only (BoolV false)
empty_map = refl

keys : on a_and_b "keys" [] ≡ only (list (t "a" ∷ t "b" ∷ []))
keys = refl

values_of_map : on a_and_b "values" [] ≡ only one_two
values_of_map = refl

contained_key : plain "contains" (a_and_b ∷ t "b" ∷ []) ≡ only (BoolV true)
contained_key = refl

got : on a_and_b "get" (t "c" ∷ []) ≡ only UnitV
got = refl

put : on a_and_b "set" (t "b" ∷ i 3 ∷ []) ≡ becomes UnitV (MapV (fields ((codes "a", i 1) ∷ (codes "b", i 3) ∷ [])))
put = refl

removed_key : on a_and_b "remove" (t "a" ∷ []) ≡ becomes (i 1) (MapV (fields ((codes "b", i 2) ∷ [])))
removed_key = refl

mixed_in : on a_and_b "mixin" (MapV (fields ((codes "b", i 3) ∷ [])) ∷ []) ≡ becomes UnitV (MapV (fields ((codes "a", i 1) ∷ (codes "b", i 3) ∷ [])))
mixed_in = refl

added_maps : plain "+" (a_and_b ∷ MapV (fields ((codes "b", i 3) ∷ [])) ∷ []) ≡ only (MapV (fields ((codes "a", i 1) ∷ (codes "b", i 3) ∷ [])))
added_maps = refl

assigned_map : plain "+=" (a_and_b ∷ MapV (fields ((codes "b", i 3) ∷ [])) ∷ []) ≡ only (MapV (fields ((codes "a", i 1) ∷ (codes "b", i 3) ∷ [])))
assigned_map = refl

cleared_map : on a_and_b "clear" [] ≡ becomes UnitV (MapV (fields []))
cleared_map = refl

-- ---- texts

-- `añb`, with two bytes for its second character
abbrev three_characters : Value
three_characters = TextV (97 ∷ 195 ∷ 177 ∷ 98 ∷ [])

length_of_text : plain "len" (three_characters ∷ []) ≡ only (i 3)
unfolding chars
length_of_text = refl

bytes_of_text : on three_characters "bytes" [] ≡ only (i 4)
bytes_of_text = refl

empty_text : on (t "") "is_empty" [] ≡ only (BoolV true)
empty_text = refl

cleared_text : on (t "ab") "clear" [] ≡ becomes UnitV (t "")
cleared_text = refl

popped_character : on (t "ab") "pop" [] ≡ becomes (CharV 98) (t "a")
unfolding chars encode_utf8
popped_character = refl

trimmed : on (t " a ") "trim" [] ≡ becomes UnitV (t "a")
unfolding chars encode_utf8 trim_start trim_end
trimmed = refl

read_number : on (t " -12 ") "parse_int" [] ≡ only (IntV (negsuc 11))
unfolding chars encode_utf8 trim_start trim_end
read_number = refl

no_number : plain "parse_int" (t "12x" ∷ []) ≡ AnswersThrow (t "arithmetic")
unfolding chars encode_utf8 trim_start trim_end
no_number = refl

appended_text : on (t "a") "append" (UnitV ∷ []) ≡ becomes UnitV (t "a")
unfolding text_of
appended_text = refl

added_text : plain "+=" (t "a" ∷ t "b" ∷ []) ≡ only (t "ab")
unfolding text_of
added_text = refl

contained_part : plain "contains" (t "abc" ∷ t "bc" ∷ []) ≡ only (BoolV true)
unfolding chars
contained_part = refl

place_of_part : on (t "abc") "index_of" (CharV 99 ∷ []) ≡ only (i 2)
unfolding chars
place_of_part = refl

starts : on (t "abc") "starts_with" (t "ab" ∷ []) ≡ only (BoolV true)
starts = refl

ends : on (t "abc") "ends_with" (t "ab" ∷ []) ≡ only (BoolV false)
ends = refl

removed_part : on (t "abab") "remove" (t "b" ∷ []) ≡ becomes UnitV (t "aa")
unfolding chars encode_utf8
removed_part = refl

replaced : on (t "abab") "replace" (t "ab" ∷ t "c" ∷ []) ≡ becomes UnitV (t "cc")
unfolding chars encode_utf8
replaced = refl

replaced_nothing : on (t "ab") "replace" (t "" ∷ t "-" ∷ []) ≡ becomes UnitV (t "-a-b-")
unfolding chars encode_utf8
replaced_nothing = refl

replaced_in_nothing : on (t "") "replace" (t "" ∷ t "-" ∷ []) ≡ becomes UnitV (t "")
unfolding chars encode_utf8
replaced_in_nothing = refl

no_place_in_nothing : on (t "") "index_of" (t "" ∷ []) ≡ only minus_one
unfolding chars
no_place_in_nothing = refl

pieces : on (t "a,b") "split" (t "," ∷ []) ≡ only (list (t "a" ∷ t "b" ∷ []))
unfolding chars encode_utf8
pieces = refl

end_of_text : on (t "abc") "sub_string" (minus_one ∷ []) ≡ only (t "c")
unfolding chars encode_utf8
end_of_text = refl

sub_string : on (t "abc") "sub_string" (i 1 ∷ i 1 ∷ []) ≡ only (t "b")
unfolding chars encode_utf8
sub_string = refl

truncated_text : on (t "abc") "truncate" (i 1 ∷ []) ≡ becomes UnitV (t "a")
unfolding chars encode_utf8
truncated_text = refl

written_character : on (t "abc") "index$set$" (i 1 ∷ CharV 120 ∷ []) ≡ becomes UnitV (t "axc")
unfolding chars encode_utf8
written_character = refl

upper : on (t "ab") "to_upper" [] ≡ only (TextV (str_to_uppercase (codes "ab")))
upper = refl

lower : on (t "AB") "to_lower" [] ≡ only (TextV (str_to_lowercase (codes "AB")))
lower = refl

made_upper : on (t "ab") "make_upper" [] ≡ becomes UnitV (TextV (str_to_uppercase (codes "ab")))
made_upper = refl

made_lower : on (t "AB") "make_lower" [] ≡ becomes UnitV (TextV (str_to_lowercase (codes "AB")))
made_lower = refl

-- ---- what no function fits

not_found : plain "len" (i 1 ∷ []) ≡ AnswersThrow (t "Function not found: len (i64)")
not_found = refl

not_found_on_a_value : on (t "a") "f" (i 1 ∷ UnitV ∷ []) ≡ AnswersThrow (t "Function not found: f (string, i64, ())")
not_found_on_a_value = refl
