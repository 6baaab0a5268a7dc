-- What is asked of a host, and what it answers.
use Rattle.std.specs.Prelude.{List, [], ◌∷◌, None, map, option_map, codes}
use Rattle.rhai_base.specs.Reading.{value_of}
use Rattle.rhai_base.specs.Value.{Text, Value, TextV, type_name}
use Rattle.theory_meaning.specs.Act as act
use Rattle.theory_meaning.specs.Act.{Answer, Answers, AnswersThrow, Host}
use Rattle.theory_meaning.specs.Host.{ModuleValue, ModulePath, module_value_of, module_in}
use Rattle.run_host.specs.declared.host.HostCall.{HostCall}
use Rattle.run_host.specs.declared.host.HostAnswer.{HostAnswer}
use Rattle.run_host.specs.declared.host.HostAnswer.TheVariants as answer_kind

abbrev pub call_meant : HostCall → act.HostCall
call_meant c = record { name = c.name; receiver = option_map value_of c.receiver; arguments = map value_of c.args }

abbrev pub answer_meant : HostAnswer → Answer
answer_meant (answer_kind.Value v r) = Answers (value_of v) (option_map value_of r)
answer_meant (answer_kind.Throw v) = AnswersThrow (value_of v)

-- values of modules, by their names, and modules, by their paths
pub record Modules : Type 0 where
  pub values : List ModuleValue
  pub paths : List ModulePath

-- none
abbrev pub no_modules : Modules
no_modules = record { values = []; paths = [] }

-- what a host is asked for the text of a value that holds a float, as if it were a run's first call
abbrev pub to_string : Value → act.HostCall
to_string v = record { name = codes "to_string"; receiver = None; arguments = v ∷ [] }

-- the text that it answers; else the name of the type, of what it answered or, where it threw, of the value
abbrev pub told : Value → Answer → Text
told v (Answers (TextV t) r) = t
told v (Answers u r) = type_name u
told v (AnswersThrow u) = type_name v

-- the host that answers so and has these modules
abbrev pub host_of : (List act.HostCall → act.HostCall → Answer) → Modules → Host
host_of answers modules = record { answer = answers; module_value = module_value_of modules.values; module_of = module_in modules.paths; text = λ v. told v (answers [] (to_string v)) }
