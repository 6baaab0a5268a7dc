-- Short forms of acts.
use Rattle.std.specs.Prelude.{Bool, true, false, List, Option, Some, None}
use Rattle.rhai_base.specs.Value.{Text, Value, UnitV, BoolV, TextV}
use Rattle.theory_meaning.specs.Act.{Breaks, Continues, Throws, Again, Ending, Gives, Leaves, WrongKind, Unbound, Answer, Answers, AnswersThrow, Act, Stop, Fail, Then, AskHost, Acts, Only, Do}

abbrev pub give : Value → Act
give v = Stop (Gives v)

abbrev pub unit : Act
unit = Stop (Gives UnitV)

abbrev pub throw : Text → Act
throw t = Stop (Leaves (Throws (TextV t)))

-- goes on with a value alone
abbrev pub value_then : (Value → Act) → Ending → Act
value_then next (Gives v) = next v
value_then next (Leaves x) = Stop (Leaves x)

infixl 10 ◌>>=◌
abbrev pub ◌>>=◌ : Act → (Value → Act) → Act
a >>= next = Then a (λ e. value_then next e)

-- the same in a list
abbrev pub each_value : (Value → Acts) → Ending → Acts
each_value next (Gives v) = next v
each_value next (Leaves x) = Only (Stop (Leaves x))

abbrev pub then_line : Act → (Value → Acts) → Acts
then_line a next = Do a (λ e. each_value next e)

abbrev pub choose : Bool → Act → Act → Act
choose true a b = a
choose false a b = b

abbrev pub truth : Value → Option Bool
truth (BoolV b) = Some b
truth _ = None

abbrev pub branch : Option Bool → Act → Act → Act
branch None a b = Fail WrongKind
branch (Some b) a a' = choose b a a'

-- by a condition's value
abbrev pub if_true : Value → Act → Act → Act
if_true v a b = branch (truth v) a b

-- what is thrown goes to the branch
abbrev pub on_throw : (Value → Act) → Ending → Act
on_throw next (Gives v) = unit
on_throw next (Leaves (Throws v)) = next v
on_throw next (Leaves x) = Stop (Leaves x)

-- how a loop's body ends a round
abbrev pub end_round : Ending → Act
end_round (Gives v) = Stop (Leaves Again)
end_round (Leaves (Breaks v)) = give v
end_round (Leaves Continues) = Stop (Leaves Again)
end_round (Leaves x) = Stop (Leaves x)

abbrev pub again_then : Act → Ending → Act
again_then next (Leaves Again) = next
again_then next e = Stop e

abbrev pub of_constant : Option Value → Act
of_constant (Some v) = give v
of_constant None = Fail Unbound

-- the host's answer
abbrev pub answered : (Value → Option Value → Act) → Answer → Act
answered next (Answers v r) = next v r
answered next (AnswersThrow v) = Stop (Leaves (Throws v))

-- a call without receiver, for its value
abbrev pub ask_host : Text → List Value → Act
ask_host f vs = AskHost (record { name = f; receiver = None; arguments = vs }) (λ a. answered (λ v u. give v) a)

abbrev pub ask_method : Text → Value → List Value → (Value → Option Value → Act) → Act
ask_method f v vs next = AskHost (record { name = f; receiver = Some v; arguments = vs }) (λ a. answered next a)
