-- What rhai's standard functions answer: a function of the call alone.
use Rattle.std.specs.Prelude.{Bool, true, false, not, ◌&&◌, ◌||◌, List, [], ◌∷◌, ◌++◌, Option, Some, None, option_map, codes, if◌then◌else◌}
use Rattle.rhai_base.specs.Value.{Text, Value, IntV, TextV, ArrayV, MapV, RangeV, RangeInclusiveV, items, same, same_text, text_of, type_name, is_hashable}
use Rattle.theory_meaning.specs.Act.{HostCall, Answer, Answers, AnswersThrow}
use Rattle.theory_meaning.specs.Engine.{or_else}
use Rattle.run_standard.specs.Forms.{gives_unit, gives_bool, gives_text}
use Rattle.run_standard.specs.Numbers.{on_int, on_range}
use Rattle.run_standard.specs.Arrays.{on_array}
use Rattle.run_standard.specs.Maps.{on_map}
use Rattle.run_standard.specs.Texts.{on_text}

-- ---- functions of any value

-- `print` and `debug` are but calls of the run
abbrev pub on_nothing : Text → Option Answer
on_nothing f =
    if same_text f (codes "print") then gives_unit
    else if same_text f (codes "debug") then gives_unit
    else None

abbrev pub alone : Text → Value → Option Answer
alone f v =
    if same_text f (codes "print") then gives_unit
    else if same_text f (codes "debug") then gives_unit
    else if same_text f (codes "to_string") then gives_text (text_of v)
    else None

-- of values that hold no float and no pointer
abbrev pub equal : Value → Value → Option Answer
equal v w = if is_hashable v && is_hashable w then gives_bool (same v w) else None

abbrev pub unequal : Value → Value → Option Answer
unequal v w = if is_hashable v && is_hashable w then gives_bool (not (same v w)) else None

abbrev pub is_text : Value → Bool
is_text (TextV t) = true
is_text _ = false

-- a text beside any value
abbrev pub joined : Value → Value → Option Answer
joined v w = if is_text v || is_text w then gives_text (text_of v ++ text_of w) else None

abbrev pub with_one : Text → Value → Value → Option Answer
with_one f v w =
    if same_text f (codes "==") then equal v w
    else if same_text f (codes "!=") then unequal v w
    else if same_text f (codes "+") then joined v w
    else None

abbrev pub on_any : Text → Value → List Value → Option Answer
on_any f v [] = alone f v
on_any f v (w ∷ []) = with_one f v w
on_any f v _ = None

-- ---- functions by the kind of their first value

abbrev pub on_kind : Text → Value → List Value → Option Answer
on_kind f (IntV n) args = on_int f n args
on_kind f (TextV t) args = on_text f t args
on_kind f (ArrayV vs) args = on_array f (items vs) args
on_kind f (MapV fs) args = on_map f fs args
on_kind f (RangeV a b) args = on_range f false a b args
on_kind f (RangeInclusiveV a b) args = on_range f true a b args
on_kind f v args = None

abbrev pub on_value : Text → Value → List Value → Option Answer
on_value f v args = or_else (on_any f v args) (on_kind f v args)

-- ---- calls

-- without a receiver nothing gets a new value
abbrev pub value_alone : Answer → Answer
value_alone (Answers v u) = Answers v None
value_alone (AnswersThrow v) = AnswersThrow v

abbrev pub on_values : Text → List Value → Option Answer
on_values f [] = on_nothing f
on_values f (v ∷ args) = option_map value_alone (on_value f v args)

abbrev pub found : Text → Option Value → List Value → Option Answer
found f None args = on_values f args
found f (Some r) args = on_value f r args

-- the types of values, with commas between them and a text before the first
abbrev pub kinds_after : Text → List Value → Text
kinds_after before [] = []
kinds_after before (v ∷ vs) = before ++ type_name v ++ kinds_after (codes ", ") vs

abbrev pub operand_kinds : Option Value → List Value → Text
operand_kinds None args = kinds_after [] args
operand_kinds (Some r) args = type_name r ++ kinds_after (codes ", ") args

abbrev pub not_found : Text → Option Value → List Value → Answer
not_found f r args = AnswersThrow (TextV (codes "Function not found: " ++ f ++ codes " (" ++ operand_kinds r args ++ codes ")"))

abbrev pub or_throws : Option Answer → Answer → Answer
or_throws (Some a) b = a
or_throws None b = b

abbrev pub standard_answer : HostCall → Answer
standard_answer c = or_throws (found c.name c.receiver c.arguments) (not_found c.name c.receiver c.arguments)
