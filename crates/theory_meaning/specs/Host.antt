-- A host by rows.
use Rattle.std.specs.Prelude.{Bool, true, false, ◌&&◌, List, [], ◌∷◌, ◌++◌, Option, Some, None, if◌then◌else◌}
use Rattle.rhai_base.specs.Value.{Text, Value, UnitV, same, same_items, same_text, type_name, values}
use Rattle.theory_meaning.specs.Act.{HostCall, Answer, Answers, Host}

pub record Row : Type 0 where
  pub past : List HostCall
  pub call : HostCall
  pub answer : Answer

pub record ModuleValue : Type 0 where
  pub name : Text
  pub value : Value

abbrev pub same_receiver : Option Value → Option Value → Bool
same_receiver None None = true
same_receiver (Some v) (Some w) = same v w
same_receiver _ _ = false

abbrev pub same_call : HostCall → HostCall → Bool
same_call a b =
    same_text a.name b.name && same_receiver a.receiver b.receiver && same_items (values a.arguments) (values b.arguments)

abbrev pub same_calls : List HostCall → List HostCall → Bool
same_calls [] [] = true
same_calls (a ∷ as') (b ∷ bs) = same_call a b && same_calls as' bs
same_calls _ _ = false

-- The first row that fits answers, and unit where none does.
abbrev pub answer_of : List Row → List HostCall → HostCall → Answer
answer_of [] past call = Answers UnitV None
answer_of (r ∷ rs) past call =
    if same_calls r.past past && same_call r.call call then r.answer else answer_of rs past call

abbrev pub module_value_of : List ModuleValue → Text → Option Value
module_value_of [] x = None
module_value_of (m ∷ ms) x = if same_text m.name x then Some m.value else module_value_of ms x

-- a module by its path
pub record ModulePath : Type 0 where
  pub path : Text
  pub name : Text

abbrev pub module_in : List ModulePath → Text → Option Text
module_in [] p = None
module_in (m ∷ ms) p = if same_text m.path p then Some m.name else module_in ms p

-- texts write a value that holds a float by its type's name
abbrev pub host_of : List Row → List ModuleValue → List ModulePath → Host
host_of rows vs ms = record { answer = answer_of rows; module_value = module_value_of vs; module_of = module_in ms; text = type_name }

-- the rows of a run's calls: each with those before it, and with the answer of a host; past: the calls before all of them
abbrev pub rows_of : Host → List HostCall → List HostCall → List Row
rows_of h past [] = []
rows_of h past (c ∷ cs) = record { past = past; call = c; answer = h.answer past c } ∷ rows_of h (past ++ c ∷ []) cs
