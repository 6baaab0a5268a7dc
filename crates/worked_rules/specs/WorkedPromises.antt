-- The promises on passes and on reports, on small cases.
use Rattle.std.proofs.Common.{ℕ, ◌≤◌, List, [], ◌∷◌, None, refl, arith}
use Rattle.std.specs.Prelude.{codes}
use Rattle.rhai_base.specs.Value.{UnitV}
use Rattle.theory_meaning.specs.Act.{HostCall}
use Rattle.theory_meaning.specs.Relations.{here}
use Rattle.theory_meaning.specs.Run.{End, WithValue, WithThrown, WithoutTurns, Report}
use Rattle.theory_meaning.specs.Tree.{Stmts, ExprStmt, Block, no_stmts, stmts}
use Rattle.theory_meaning.specs.WorkedForms.{int, i}
use Rattle.theory_rewriting.specs.Context.{Context}
use Rattle.theory_soundness.specs.Passes.{last_pass, no_pass, ScriptPasses, PassesWithin}
use Rattle.theory_soundness.specs.Reports.{Follows, ReportsFollow}
use Rattle.theory_rewriting.specs.Rewriting.{same_stmts}

-- ---- passes

abbrev answer : Stmts
answer = stmts (ExprStmt (int 42) ∷ [])

-- over `42` one is made, over nothing none
one : (k : Context) → ScriptPasses k 1 answer answer
one k = last_pass no_pass same_stmts

none : (k : Context) → ScriptPasses k 0 no_stmts no_stmts
none k = (refl, refl)

never_none : PassesWithin 0 answer answer → ⊥
never_none p = absurd (let z : 1 ≤ 0 = p.some (λ e. cc) in omega (arith, z))

-- one alone changes nothing
one_that_changes : PassesWithin 1 (stmts (Block answer ∷ [])) answer → ⊥
one_that_changes p = absurd (let z : 2 ≤ 1 = p.changed (λ e. cc) in omega (arith, z))

-- ---- reports

abbrev ended : End → List HostCall → ℕ → Report
ended e calls turns = record { ended = e; variables = []; exports = []; this = None; calls = calls; turns = turns }

abbrev asked : List HostCall
asked = record { name = codes "f"; receiver = None; arguments = [] } ∷ []

itself : Follows (ended (WithValue (i 1)) asked 3) (ended (WithValue (i 1)) asked 3)
itself = record { same_end = λ h. record { ended = refl; variables = refl; exports = refl; this = refl; calls = refl; turns = omega arith }; same_calls = here }

another_value : Follows (ended (WithValue (i 1)) [] 0) (ended (WithValue (i 2)) [] 0) → ⊥
another_value f = absurd (let z = (f.same_end refl).ended in cc)

thrown : Follows (ended (WithValue (i 1)) [] 0) (ended (WithThrown (i 1)) [] 0) → ⊥
thrown f = absurd (let z = (f.same_end refl).ended in cc)

fewer_turns : Follows (ended (WithValue UnitV) [] 1) (ended (WithValue UnitV) [] 0) → ⊥
fewer_turns f = absurd (let z : 1 ≤ 0 = (f.same_end refl).turns in omega (arith, z))

a_call_less : Follows (ended (WithValue UnitV) asked 0) (ended (WithValue UnitV) [] 0) → ⊥
a_call_less f = absurd (let z = (f.same_end refl).calls in cc)

an_export_less : Follows (record (ended (WithValue UnitV) [] 0) { exports = (codes "x", i 1) ∷ [] }) (ended (WithValue UnitV) [] 0) → ⊥
an_export_less f = absurd (let z = (f.same_end refl).exports in cc)

-- what is endless may not end
end_of_the_endless : ReportsFollow (λ n. ended WithoutTurns [] 0) (λ n. ended (WithValue UnitV) [] n) → ⊥
end_of_the_endless f = absurd (let z = (f.no_new_end 0 refl).1 in cc)
