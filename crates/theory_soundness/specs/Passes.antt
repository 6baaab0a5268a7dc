-- The passes over a script's statements: each but the last sets the dirty flag, which is clear where it begins, and the last does not.
use Rattle.std.specs.Prelude.{◌≡◌, ℕ, ◌≤◌, ◌+◌, suc, true, false}
use Rattle.theory_meaning.specs.Tree.{Stmts, no_stmts, stmt}
use Rattle.theory_meaning.specs.Weight.{weight}
use Rattle.theory_rewriting.specs.Context.{Context, Whole}
use Rattle.theory_rewriting.specs.Rewriting.{StmtsTo}

-- so many passes, each of which set the flag
pub data Setting (k : Context) : ℕ → Stmts → Stmts → Type 0 where
  no_pass : {ss : Stmts} → Setting k 0 ss ss
  one_more : {n : ℕ} {ss ss1 ss' : Stmts} → Setting k n ss ss1 → StmtsTo k Whole false true ss1 ss' → Setting k (suc n) ss ss'

-- and a last one, which did not
pub data Passes (k : Context) : ℕ → Stmts → Stmts → Type 0 where
  last_pass : {n : ℕ} {ss ss1 ss' : Stmts} → Setting k n ss ss1 → StmtsTo k Whole false false ss1 ss' → Passes k (suc n) ss ss'

-- over no statements none is made
abbrev pub ScriptPasses : Context → ℕ → Stmts → Stmts → Type 0
ScriptPasses k n no_stmts ss' = (n ≡ 0) × (ss' ≡ no_stmts)
ScriptPasses k n (stmt s ss) ss' = Passes k n (stmt s ss) ss'

-- ---- how many there are

-- at least two where something changed, and never more than the weight and one
pub record PassesWithin (n : ℕ) (ss ss' : Stmts) : Type 0 where
  pub none : ss ≡ no_stmts → n ≡ 0
  pub some : (ss ≡ no_stmts → ⊥) → 1 ≤ n
  pub changed : (ss' ≡ ss → ⊥) → 2 ≤ n
  pub most : n ≤ weight ss + 1

abbrev pub PassesAreBounded : Type 0
PassesAreBounded = (k : Context) (n : ℕ) (ss ss' : Stmts) → ScriptPasses k n ss ss' → PassesWithin n ss ss'
