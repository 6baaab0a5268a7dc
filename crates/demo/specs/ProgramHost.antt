-- What the program's host answers: a function of the call alone. What it knows of modules.
use Rattle.std.specs.Prelude.{List, [], ◌∷◌, ◌++◌, Option, Some, None, true, pos, codes, if◌then◌else◌}
use Rattle.rhai_base.specs.Value.{Value, UnitV, BoolV, IntV, TextV, ArrayV, items, values, same_text, text_of}
use Rattle.theory_meaning.specs.Act.{HostCall, Answer, Answers, Host}
use Rattle.run_host.specs.Host.{Modules, host_of}

abbrev pub unit_alone : Answer
unit_alone = Answers UnitV None

-- two arguments as texts, one after the other
abbrev pub joined_texts : List Value → Answer
joined_texts (v ∷ w ∷ []) = Answers (TextV (text_of v ++ text_of w)) None
joined_texts _ = unit_alone

-- one argument, behind the items of the receiver
abbrev pub appended : Value → Value → Answer
appended (ArrayV vs) v = Answers UnitV (Some (ArrayV (values (items vs ++ v ∷ []))))
appended _ v = unit_alone

abbrev pub pushed : Option Value → List Value → Answer
pushed (Some r) (v ∷ []) = appended r v
pushed _ _ = unit_alone

-- `f` is true, `+` joins texts, and the method `push` appends to an array, whatever else the call has
abbrev pub program_answer : HostCall → Answer
program_answer c =
    if same_text c.name (codes "f") then Answers (BoolV true) None
    else if same_text c.name (codes "+") then joined_texts c.arguments
    else if same_text c.name (codes "push") then pushed c.receiver c.arguments
    else unit_alone

-- the path m leads to module m, whose value v is 7
abbrev pub program_modules : Modules
program_modules = record {
  values = record { name = codes "m::v"; value = IntV (pos 7) } ∷ [];
  paths = record { path = codes "m"; name = codes "m" } ∷ [];
}

abbrev pub program_host : Host
program_host = host_of (λ past call. program_answer call) program_modules
