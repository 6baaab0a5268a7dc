-- Statements behind which names stay known.
use Rattle.std.proofs.Common.{◌≡◌, Bool, true, false, ◌||◌, refl, ap, ◌∙◌}
use Rattle.theory_meaning.specs.Queries.{is_pure}
use Rattle.theory_meaning.specs.Tree.{Stmt, Block, Stmts, no_stmts, stmt}
use Rattle.theory_meaning.specs.Walk.{over_stmts}
use Rattle.theory_rewriting.specs.Evals.{eval_walk, calls_no_eval, keeps_names}

-- of a list inside nothing is asked
lists_keep : (ss : Stmts) → over_stmts eval_walk ss ≡ true
lists_keep no_stmts = refl
lists_keep (stmt s ss) = lists_keep ss

pub block_keeps : (ss : Stmts) → keeps_names (Block ss) ≡ true
block_keeps ss = ap (λ b. b || is_pure (Block ss)) (lists_keep ss)

or_true : (b : Bool) → b || true ≡ true
or_true true = refl
or_true false = refl

pub pure_keeps : (s : Stmt) → is_pure s ≡ true → keeps_names s ≡ true
pure_keeps s h = ap (λ b. calls_no_eval s || b) h ∙ or_true (calls_no_eval s)
