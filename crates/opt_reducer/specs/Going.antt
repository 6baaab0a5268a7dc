-- A list while it is gone over: under the names known, and behind a call of `eval` under none.
use Rattle.std.specs.Prelude.{◌≡◌, ℕ, zero, suc, Bool, true, false, ◌&&◌, List, slice_index_or}
use Rattle.ast_types.specs.Defaults.{nowhere}
use Rattle.ast_types.specs.declared.stmt.Stmt as declared_stmt
use Rattle.ast_types.specs.declared.stmt.Stmt.TheVariants.{Noop as noop_at}
use Rattle.ast_types.specs.Reading.{stmt_of}
use Rattle.theory_meaning.specs.Engine.{Engine}
use Rattle.theory_meaning.specs.Tree.{Stmt}
use Rattle.theory_rewriting.specs.Evals.{keeps_names}
use Rattle.theory_rewriting.specs.Steps.{Progress, StmtRun, ItemRun}

-- whether names are known, the state where they are, and the one where none is
pub record Going : Type 0 where
  pub are_known : Bool
  pub state : Progress
  pub unknown : Progress

abbrev pub going : Bool → Progress → Progress → Going
going b s u = record { are_known = b; state = s; unknown = u }

-- whether names are known at a place: they were at the one before, and its statement calls no `eval`
abbrev pub known_at : Bool → List declared_stmt.Stmt → ℕ → Bool
known_at b xs zero = b
known_at b xs (suc n) = b && keeps_names (stmt_of (slice_index_or xs n (noop_at nowhere)))

-- a statement of the list
abbrev pub item_goes : Bool → Engine → Bool → Going → Going → Stmt → Stmt → Type 0
item_goes true r w g g' x x' = ((g'.are_known ≡ keeps_names x') × (g'.unknown ≡ g.unknown)) × ItemRun r w g.state g'.state x x'
item_goes false r w g g' x x' = ((g'.are_known ≡ false) × (g'.state ≡ g.state)) × StmtRun r w g.unknown g'.unknown x x'

abbrev pub ItemGoes : Engine → Bool → Going → Going → Stmt → Stmt → Type 0
ItemGoes r w g g' x x' = item_goes g.are_known r w g g' x x'
