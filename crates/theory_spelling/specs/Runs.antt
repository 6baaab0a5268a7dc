-- Scripts that run alike, and but for names.
use Rattle.std.specs.Prelude.{◌≡◌, ℕ, List}
use Rattle.rhai_base.specs.Value.{Text}
use Rattle.theory_meaning.specs.Act.{ScopeEntry, Host}
use Rattle.theory_meaning.specs.Desugar.{core_script}
use Rattle.theory_meaning.specs.Engine.{Engine}
use Rattle.theory_meaning.specs.Run.{EntryPoint, run_script}
use Rattle.theory_meaning.specs.Tree.{Script}
use Rattle.theory_naming.specs.Alike.{RunBut}

-- For every engine's record, host, entry point, start scope and number of turns they have the same run: the same end, store
-- and calls, and as many turns left, also where it is stuck.
pub record RunAlike (p q : Script) : Type 0 where
  pub runs : (engine : Engine) (host : Host) (e : EntryPoint) (scope : List ScopeEntry) (n : ℕ) → run_script engine host (core_script p) e scope n ≡ run_script engine host (core_script q) e scope n

-- The second does what the first does: their runs are the same, or the same but for the names of closures.
pub data DoTheSame : Script → Script → Type 0 where
  alike : {p q : Script} → RunAlike p q → DoTheSame p q
  alike_but_names : {p q : Script} (named : Text → Text) → RunBut named p q → DoTheSame p q
