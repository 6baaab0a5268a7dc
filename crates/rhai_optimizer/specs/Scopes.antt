-- What the record and a script's scope say of names before a run.
use Rattle.std.specs.Prelude.{List, [], ◌∷◌, Option, Some, None, cond}
use Rattle.std.specs.Option.{option_map}
use Rattle.rhai_base.specs.Reading.{value_of}
use Rattle.rhai_base.specs.declared.scope.Scope.{Scope}
use Rattle.rhai_base.specs.declared.scope.ScopeEntry.{ScopeEntry}
use Rattle.run_host.specs.Entries.{start_scope}
use Rattle.theory_meaning.specs.Act as act
use Rattle.theory_meaning.specs.Act.{OfName}
use Rattle.theory_meaning.specs.Engine.{Engine, Binding}
use Rattle.theory_meaning.specs.Tree.{Script}
use Rattle.theory_rewriting.specs.Scripts.{captures_nothing, known_in_bodies}
use Rattle.theory_rewriting.specs.Known.{Known}

-- ---- names in the order in which they were pushed, on top of others

-- a constant with its value, or a variable
abbrev pub entry_known : ScopeEntry → Known
entry_known e = record { root = OfName e.name; value = option_map value_of (cond e.is_constant (Some e.value) None) }

abbrev pub known_onto : List ScopeEntry → List Known → List Known
known_onto [] ks = ks
known_onto (e ∷ es) ks = known_onto es (entry_known e ∷ ks)

abbrev pub given_onto : Option Scope → List Known → List Known
given_onto None ks = ks
given_onto (Some es) ks = known_onto es ks

-- the record's
abbrev pub constants_onto : List Binding → List Known → List Known
constants_onto [] ks = ks
constants_onto (b ∷ bs) ks = constants_onto bs (record { root = OfName b.name; value = Some b.value } ∷ ks)

-- ---- the start of a run

-- the names that a run starts with; without a scope none is known of
abbrev pub start_of : Option Scope → List act.ScopeEntry
start_of None = []
start_of (Some es) = start_scope es

-- what bodies are told of names from outside: nothing, where any call of the script captures
abbrev pub known_outside : Engine → List act.ScopeEntry → Script → List Known
known_outside r start p = cond (captures_nothing p) (known_in_bodies r start) []
