-- Passes over a script's statements, as they are counted.
use Rattle.std.specs.Prelude.{◌≡◌, ◌≤◌, ℕ, ◌-◌, ◌^◌, min}
use Rattle.theory_meaning.specs.Engine.{Engine}
use Rattle.theory_meaning.specs.Tree.{Stmts}
use Rattle.theory_rewriting.specs.Context.{Context, knowing}
use Rattle.theory_rewriting.specs.Finished.{IsFinished}
use Rattle.theory_soundness.specs.Passes.{Setting, ScriptPasses}
use Rattle.theory_rewriting.specs.Steps.{Progress, IsReducedBody}

-- the number of the passes that were made; it stays at the greatest that a `u64` holds
pub record Counts (k : Context) (number : ℕ) (ss ss' : Stmts) : Type 0 where
  pub made : ℕ
  pub passes : ScriptPasses k made ss ss'
  pub saturated : number ≡ min made (2 ^ 64 - 1)

-- so many passes that set the flag, while more are made
pub record SettingSoFar (r : Engine) (number : ℕ) (s s' : Progress) (ss ss' : Stmts) : Type 0 where
  pub made : ℕ
  pub passes : Setting (knowing r s.known) made ss ss'
  pub saturated : number ≡ min made (2 ^ 64 - 1)
  pub known : s'.known ≡ s.known

-- passes until one changes nothing: then nothing is left to do
pub record PassesRun (r : Engine) (number : ℕ) (s s' : Progress) (ss ss' : Stmts) : Type 0 where
  pub counts : Counts (knowing r s.known) number ss ss'
  pub reduced : IsReducedBody r ss'
  pub finished : IsFinished (knowing r s.known) ss'
  pub kept : number ≤ 1 → ss' ≡ ss
  pub known : s'.known ≡ s.known
