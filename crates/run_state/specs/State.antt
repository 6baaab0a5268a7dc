-- Where a run stands.
use Rattle.std.specs.Prelude.{◌≡◌, Bool, true, false, suc, [], ◌∷◌, map, length, Option, Some, None, Result, Ok, Err, option_map}
use Rattle.rhai_base.specs.Value.{Text, Value}
use Rattle.rhai_base.specs.Reading.{value_of}
use Rattle.theory_meaning.specs.Act.{EntryKind, IsVariable, IsAlias, IsExport, Store, declared, restore}
use Rattle.theory_meaning.specs.Run.{reversed}
use Rattle.run_state.specs.declared.state.Interrupt.{Interrupt}
use Rattle.run_state.specs.declared.state.Interrupt.TheVariants.{OutOfTurns}
use Rattle.run_state.specs.declared.state.Mark.{Mark}
use Rattle.run_state.specs.declared.state.State.{State}
use Rattle.run_state.specs.Entries.{entry_meant, binding_meant}
use Rattle.run_host.specs.Host.{call_meant}

abbrev pub store_of : State → Store
store_of s = record { scope = reversed (map entry_meant s.scope.items) []; globals = map binding_meant s.globals.items; is_own = s.is_own; this = option_map value_of s.this; calls = map call_meant s.calls }

-- a turn is taken, or there was none
abbrev pub TakesTurn : State → Result Unit Interrupt → State → Type 0
TakesTurn s (Ok u) s' = (s.turns ≡ suc s'.turns) × (store_of s' ≡ store_of s)
TakesTurn s (Err x) s' = (x ≡ OutOfTurns) × (s.turns ≡ 0) × (s'.turns ≡ 0) × (store_of s' ≡ store_of s)

-- where a guard holds, its round takes a turn; else nothing changes
abbrev pub GoesOn : Bool → State → Result Bool Interrupt → State → Type 0
GoesOn true s (Ok b) s' = (b ≡ true) × TakesTurn s (Ok (tt {0})) s'
GoesOn true s (Err x) s' = TakesTurn s (Err x) s'
GoesOn false s (Ok b) s' = (b ≡ false) × (s' ≡ s)
GoesOn false s (Err x) s' = ⊥

-- what is to be restored when a list ends that began in this store
abbrev pub Marks : Mark → Store → Type 0
Marks m st = (m.names ≡ length st.scope) × (m.is_own ≡ st.is_own)

-- after a list that began in the first store
abbrev pub outside : Store → Store → Store
outside old st = record st { scope = restore old.scope st.scope; is_own = old.is_own }

-- with a declared name, and an export of its value where it is exported
abbrev pub declared_in : EntryKind → Bool → Text → Value → Store → Store
declared_in k false x v st = declared x k v st
declared_in k true x v st = declared x IsExport v (declared x k v st)

-- with an alias of a module; without a name there is none
abbrev pub aliased_in : Text → Value → Store → Store
aliased_in [] v st = st
aliased_in (c ∷ cs) v st = declared (c ∷ cs) IsAlias v st

-- a name on top of the others, where there is one
abbrev pub named_in : Option Text → Value → Store → Store
named_in None v st = st
named_in (Some x) v st = declared x IsVariable v st
