-- The names of a scope, and what is exported.
use Rattle.std.specs.Prelude.{Bool, List, [], map}
use Rattle.rhai_base.specs.Value.{Text, Value}
use Rattle.rhai_base.specs.Reading.{value_of}
use Rattle.rhai_base.specs.declared.dynamic.Dynamic.{Dynamic}
use Rattle.rhai_base.specs.declared.scope.ScopeEntry.{ScopeEntry}
use Rattle.theory_meaning.specs.Act as act
use Rattle.theory_meaning.specs.Desugar.{name_kind}
use Rattle.theory_meaning.specs.Run.{reversed}

abbrev pub variable_meant : Text × Bool × Dynamic → act.ScopeEntry
variable_meant v = record { name = v.0; kind = name_kind v.1; value = value_of v.2 }

abbrev pub export_meant : Text × Dynamic → Text × Value
export_meant e = (e.0, value_of e.1)

abbrev pub entry_meant : ScopeEntry → act.ScopeEntry
entry_meant e = record { name = e.name; kind = name_kind e.is_constant; value = value_of e.value }

-- as a run keeps them, latest first
abbrev pub start_scope : List ScopeEntry → List act.ScopeEntry
start_scope es = reversed (map entry_meant es) []
