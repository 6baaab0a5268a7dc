-- Names in a scope, latest last.
use Rattle.std.specs.Prelude.{◌≡◌, ℕ, true, false, List, [], ◌∷◌, ◌++◌, length}
use Rattle.rhai_base.specs.Value.{Text}
use Rattle.theory_meaning.specs.Act.{is_called}
use Rattle.run_state.specs.declared.entries.Entry.{Entry}
use Rattle.run_state.specs.Entries.{entry_meant}

-- no name there is this
abbrev pub IsMissing : Text → List Entry → Type 0
IsMissing x [] = Unit {0}
IsMissing x (e ∷ es) = (is_called (entry_meant e) x ≡ false) × IsMissing x es

-- the last entry of a name stands there
pub record IsLatest (x : Text) (es : List Entry) (i : ℕ) : Type 0 where
  pub front : List Entry
  pub back : List Entry
  pub here : Entry
  pub whole : es ≡ front ++ here ∷ back
  pub place : i ≡ length front
  pub named : is_called (entry_meant here) x ≡ true
  pub latest : IsMissing x back
