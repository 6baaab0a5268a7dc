-- A host by rows: what it answers by a call's name and by how many calls came before.
use Rattle.std.specs.Prelude.{ℕ, Bool, true, ◌&&◌, ◌==◌, List, [], ◌∷◌, map, Option, Some, None, option_map, if◌then◌else◌}
use Rattle.rhai_base.specs.declared.dynamic.Dynamic.{Dynamic}
use Rattle.rhai_base.specs.Reading.{value_of}
use Rattle.rhai_base.specs.Value.{Text, UnitV, same_text}
use Rattle.theory_meaning.specs.Act.{Answer, Answers, AnswersThrow}
use Rattle.theory_meaning.specs.Host.{ModuleValue, ModulePath}
use Rattle.run_host.specs.Host.{Modules}
use Rattle.tests_reader.specs.declared.rows.AnswerRow.{AnswerRow}

abbrev pub is_after : Option ℕ → ℕ → Bool
is_after None n = true
is_after (Some m) n = m == n

abbrev pub is_named : Option Text → Text → Bool
is_named None f = true
is_named (Some g) f = same_text g f

abbrev pub fits : AnswerRow → ℕ → Text → Bool
fits r n f = is_after r.past n && is_named r.name f

abbrev pub answered : AnswerRow → Answer
answered r = if r.is_thrown then AnswersThrow (value_of r.value) else Answers (value_of r.value) (option_map value_of r.receiver)

-- the first row that fits, and unit where none does
abbrev pub answer_among : List AnswerRow → ℕ → Text → Answer
answer_among [] n f = Answers UnitV None
answer_among (r ∷ rs) n f = if fits r n f then answered r else answer_among rs n f

abbrev pub modules_of : List (Text × Dynamic) → List ModuleValue
modules_of ms = map (λ m. record { name = m.0; value = value_of m.1 }) ms

abbrev pub paths_of : List (Text × Text) → List ModulePath
paths_of ps = map (λ p. record { path = p.0; name = p.1 }) ps

abbrev pub modules_by : List (Text × Dynamic) → List (Text × Text) → Modules
modules_by ms ps = record { values = modules_of ms; paths = paths_of ps }
