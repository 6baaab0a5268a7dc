-- What stands in the scope of a run.
use Rattle.std.specs.Prelude.{List, [], map}
use Rattle.rhai_base.specs.Reading.{value_of}
use Rattle.theory_meaning.specs.Act as act
use Rattle.theory_meaning.specs.Engine.{Binding}
use Rattle.theory_meaning.specs.Run.{reversed}
use Rattle.run_state.specs.declared.entries.Entry.{Entry}
use Rattle.run_state.specs.declared.entries.EntryKind.{EntryKind}
use Rattle.run_state.specs.declared.entries.EntryKind.TheVariants as kind

abbrev pub kind_meant : EntryKind → act.EntryKind
kind_meant kind.Variable = act.IsVariable
kind_meant kind.Constant = act.IsConstant
kind_meant kind.Alias = act.IsAlias
kind_meant kind.Export = act.IsExport

abbrev pub entry_meant : Entry → act.ScopeEntry
entry_meant e = record { name = e.name; kind = kind_meant e.kind; value = value_of e.value }

-- the entries of a state, latest first
abbrev pub scope_meant : List Entry → List act.ScopeEntry
scope_meant es = reversed (map entry_meant es) []

-- a constant that functions see
abbrev pub binding_meant : Entry → Binding
binding_meant e = record { name = e.name; value = value_of e.value }
