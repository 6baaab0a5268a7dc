-- What it means that one run does what another does, and one script what another does.
use Rattle.std.specs.Prelude.{◌≡◌, ℕ, ◌≤◌, List, ◌⊎◌}
use Rattle.theory_meaning.specs.Act.{ScopeEntry, Host, Store, Ending, Stuck, IsStuck, Outcome, Ended, Halted, Result, At}
use Rattle.theory_meaning.specs.Desugar.{core_script}
use Rattle.theory_meaning.specs.Engine.{Engine}
use Rattle.theory_meaning.specs.Relations.{Begins, calls_of}
use Rattle.theory_meaning.specs.Run.{EntryPoint, run_script}
use Rattle.theory_meaning.specs.Tree.{Script}
use Rattle.theory_rewriting.specs.Known.{Known, Agrees}

-- A run by its number of turns: with some number of turns it ends in this outcome and this store.
-- The store holds the scope with its names, aliases and exports, `this`, and the host calls in order.
abbrev pub EndsSo : (ℕ → Result) → Outcome → Store → Type 0
EndsSo r o s = (n : ℕ) × (left : ℕ) × (r n ≡ At o s left)

-- The new run r' refines the old run r: it does what r does, each by its number of turns.
-- A run has ended where it gives a value, returns one or throws; it is stuck where the language says nothing of what
-- it does; else it is out of turns. A run that is out of turns with every number of turns goes on for ever.
pub record RunRefines (r r' : ℕ → Result) : Type 0 where
  -- Where the old run ends, the new one ends in the same way with the same store, and with as many turns left at least.
  pub same_end : (n : ℕ) (o : Ending) (s : Store) (left : ℕ) → r n ≡ At (Ended o) s left → (left' : ℕ) × (left ≤ left') × (r' n ≡ At (Ended o) s left')
  -- However the old run goes, its host calls are a beginning of those of the new one.
  pub same_calls : (n : ℕ) → Begins (calls_of (r n)) (calls_of (r' n))
  -- Where the new run ends, the old one ends so too, with turns enough, or else is stuck: an endless script stays endless.
  pub no_new_end : (n : ℕ) (o : Ending) (s : Store) (left : ℕ) → r' n ≡ At (Ended o) s left → EndsSo r (Ended o) s ⊎ ((f : Stuck) × (s' : Store) × EndsSo r (Halted (IsStuck f)) s')
  -- Where the new run is stuck, the old one is stuck too, with turns enough.
  pub no_new_stuck : (n : ℕ) (f : Stuck) (s : Store) (left : ℕ) → r' n ≡ At (Halted (IsStuck f)) s left → (f' : Stuck) × (s' : Store) × EndsSo r (Halted (IsStuck f')) s'

-- The script p' refines p under an engine's record: for every host, start scope and entry point, and for every number of turns.
pub record Refines (engine : Engine) (p p' : Script) : Type 0 where
  pub runs : (host : Host) (scope : List ScopeEntry) (e : EntryPoint) → RunRefines (run_script engine host (core_script p) e scope) (run_script engine host (core_script p') e scope)

-- So it does where the start scope agrees with what was known.
pub record RefinesWhere (engine : Engine) (known : List Known) (p p' : Script) : Type 0 where
  pub runs : (host : Host) (scope : List ScopeEntry) (e : EntryPoint) → Agrees engine.constants known scope → RunRefines (run_script engine host (core_script p) e scope) (run_script engine host (core_script p') e scope)
