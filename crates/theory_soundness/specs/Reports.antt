-- What it means, in the words of a report, that one run follows another: the theorem over stores as a reader sees it who looks at reports.
use Rattle.std.specs.Prelude.{◌≡◌, ℕ, ◌≤◌, Bool, true, false, List}
use Rattle.theory_meaning.specs.Act.{ScopeEntry, Host}
use Rattle.theory_meaning.specs.Desugar.{core_script}
use Rattle.theory_meaning.specs.Engine.{Engine}
use Rattle.theory_meaning.specs.Relations.{Begins}
use Rattle.theory_meaning.specs.Run.{End, WithValue, WithThrown, WithoutTurns, EntryPoint, Report, report_of, run_script}
use Rattle.theory_meaning.specs.Tree.{Script}
use Rattle.theory_rewriting.specs.Known.{Known, Agrees}
use Rattle.theory_soundness.specs.Refines.{RefinesWhere}

-- with a value or a thrown one
abbrev pub has_ended : End → Bool
has_ended (WithValue v) = true
has_ended (WithThrown v) = true
has_ended _ = false

abbrev pub is_out_of_turns : End → Bool
is_out_of_turns WithoutTurns = true
is_out_of_turns _ = false

-- the same end, the same variables, the same exports, the same last `this` and the same calls, with as many turns left at least
pub record EndsAs (r r' : Report) : Type 0 where
  pub ended : r'.ended ≡ r.ended
  pub variables : r'.variables ≡ r.variables
  pub exports : r'.exports ≡ r.exports
  pub this : r'.this ≡ r.this
  pub calls : r'.calls ≡ r.calls
  pub turns : r.turns ≤ r'.turns

-- The report r' of one run follows the report r of another, both with the same turns.
pub record Follows (r r' : Report) : Type 0 where
  -- where r ended, r' ended in the same way
  pub same_end : has_ended r.ended ≡ true → EndsAs r r'
  -- and however r went, its calls are a beginning of those of r'
  pub same_calls : Begins r.calls r'.calls

-- The reports r', each by its number of turns, follow the reports r, and come to no end where r comes to none with any number of turns.
pub record ReportsFollow (r r' : ℕ → Report) : Type 0 where
  pub follows : (n : ℕ) → Follows (r n) (r' n)
  pub no_new_end : (n : ℕ) → is_out_of_turns (r' n).ended ≡ false → (m : ℕ) × (is_out_of_turns (r m).ended ≡ false)

-- the report of a script's run by its number of turns
abbrev pub reports : Engine → Host → Script → EntryPoint → List ScopeEntry → ℕ → Report
reports engine host p e scope n = report_of e (run_script engine host (core_script p) e scope n)

-- The promise on reports.
abbrev pub RefinesReports : Type 0
RefinesReports = (engine : Engine) (known : List Known) (p p' : Script) → RefinesWhere engine known p p'
    → (host : Host) (scope : List ScopeEntry) (e : EntryPoint) → Agrees engine.constants known scope
    → ReportsFollow (reports engine host p e scope) (reports engine host p' e scope)
