-- Every well-formed script comes to one in which nothing is left to reduce: steps apply as long as something is, and each
-- lowers the weight.
use Rattle.std.proofs.Common.{ℕ, zero, suc, ◌+◌, ◌≤◌, true, false, ◌⊎◌, inl, inr, List, [], ◌∷◌, refl, arith}
use Rattle.theory_meaning.specs.Faults.{AreWellFormed, AreWellFormedFunctions}
use Rattle.theory_meaning.specs.Tree.{Stmts, Function}
use Rattle.theory_meaning.specs.Walk.{outermost}
use Rattle.theory_meaning.specs.Weight.{weight}
use Rattle.theory_rewriting.specs.Context.{Context, Whole}
use Rattle.theory_rewriting.specs.Finished.{IrreducibleIsReached}
use Rattle.theory_rewriting.specs.Reducible.{IsIrreducibleBody, AreIrreducibleBodies}
use Rattle.theory_rewriting.specs.Rewriting.{StmtsTo, same_stmts, then_stmts, flag_forgotten}
use Rattle.theory_rewriting.specs.Scripts.{naming_all, FunctionsTo, no_functions, functions}
use Rattle.theory_soundness.proofs.Finishing.{body_decided}
use Rattle.theory_rewriting.proofs.Weights.{stmts_fall}
use Rattle.theory_soundness.proofs.kept.WellFormed.{stmts_well}

abbrev Reached : Context → Stmts → Type 0
Reached k ss = (ss' : Stmts) × StmtsTo k Whole true true ss ss' × IsIrreducibleBody k.engine ss'

-- a step first, and then the rest of the way
onward : (n : ℕ) (k : Context) (ss : Stmts) → weight ss ≤ suc n → AreWellFormed outermost ss → ((ss' : Stmts) → weight ss' ≤ n → AreWellFormed outermost ss' → Reached k ss') → IsIrreducibleBody k.engine ss ⊎ ((ss' : Stmts) × StmtsTo k Whole false true ss ss') → Reached k ss
onward n k ss h w f (inl x) = (ss, same_stmts, x)
onward n k ss h w f (inr z) =
    let l : weight z.0 + 1 ≤ weight ss = stmts_fall z.1 in
    let y = f z.0 (omega arith) (stmts_well false z.1 w) in
    (y.0, then_stmts (flag_forgotten z.1) y.1, y.2)

at_end : (k : Context) (ss : Stmts) → weight ss ≤ 0 → IsIrreducibleBody k.engine ss ⊎ ((ss' : Stmts) × StmtsTo k Whole false true ss ss') → Reached k ss
at_end k ss h (inl x) = (ss, same_stmts, x)
at_end k ss h (inr z) = absurd (let l : weight z.0 + 1 ≤ weight ss = stmts_fall z.1 in omega arith)

-- within n steps
body_reached : (n : ℕ) (k : Context) (ss : Stmts) → weight ss ≤ n → AreWellFormed outermost ss → Reached k ss
body_reached zero k ss h w = at_end k ss h (body_decided k ss w)
body_reached (suc n) k ss h w = onward n k ss h w (λ ss'. body_reached n k ss') (body_decided k ss w)

bodies_reached : (k : Context) (fs : List Function) → AreWellFormedFunctions fs → (fs' : List Function) × FunctionsTo k fs fs' × AreIrreducibleBodies k.engine fs'
bodies_reached k [] h = ([], no_functions, tt)
bodies_reached k (f ∷ fs) h =
    let y = body_reached (weight f.body) (naming_all f.params k) f.body (omega arith) h.1 in
    let z = bodies_reached k fs h.2 in
    (record f { body = y.0 } ∷ z.0, functions (record { name = refl; this_type = refl; params = refl; body = y.1 }) z.1, (y.2, z.2))

pub irreducible_is_reached : IrreducibleIsReached
irreducible_is_reached engine top inner p h =
    let y = body_reached (weight p.statements) (record { engine = engine; known = top }) p.statements (omega arith) h.0 in
    let z = bodies_reached (record { engine = engine; known = inner }) p.functions h.1 in
    record {
      script = record { statements = y.0; functions = z.0 };
      to = record { statements = y.1; functions = z.1 };
      irreducible = record { statements = y.2; functions = z.2 };
    }
