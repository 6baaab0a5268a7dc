-- Rules that fired.
use Rattle.std.proofs.Common.{◌≡◌, Bool, true, ◌||◌, ◌+◌, ◌<◌, ◌≤◌, ℕ, List, [], ◌∷◌, length, Option, Some, None, is_some, sym, subst, arith}
use Rattle.rhai_base.specs.Value.{Text, Value}
use Rattle.theory_meaning.specs.Engine.{Engine}
use Rattle.theory_meaning.specs.Tree.{Stmt, Noop, Share}
use Rattle.theory_rewriting.specs.Known.{Known, look, unless_known, unknown}
use Rattle.theory_rewriting.specs.Rules as rule
use Rattle.theory_rewriting.specs.Rules.{StmtRule}
use Rattle.theory_rewriting.specs.Steps.{Progress, here, KeepsStmtParts}
use Rattle.theory_rewriting.proofs.Firing.{stmt_fired_by}
use Rattle.theory_rewriting.proofs.Keeping.{keeps_noop}
use Rattle.opt_stmts.specs.Firing.{Fires}
use Rattle.opt_stmts.specs.SettledAssignments.{shares_nothing, knows_some}
use Rattle.opt_stmts.proofs.AssignmentParts.{keeps_share}

pub fires : {r : Engine} {w : Bool} {s s' : Progress} {x x' : Stmt} → s'.is_dirty ≡ true → s'.known ≡ s.known → StmtRule (here r s) w x x' → KeepsStmtParts x x' → Fires r w s s' x x'
fires d k q z = (stmt_fired_by d k q, z)

-- nothing took the place of a statement
pub gone : {r : Engine} {w : Bool} {s s' : Progress} {x x' : Stmt} → s'.is_dirty ≡ true → s'.known ≡ s.known → x' ≡ Noop → StmtRule (here r s) w x Noop → Fires r w s s' x x'
gone {r = r} {w = w} {s = s} {s' = s'} {x = x} d k i q = subst (λ a. Fires r w s s' x a) (sym i) (fires d k q (keeps_noop x))

-- ---- shared names

pub shared-none : {r : Engine} {w : Bool} {s s' : Progress} {x' : Stmt} (x : Stmt) → shares_nothing x ≡ true → s'.is_dirty ≡ true → s'.known ≡ s.known → x' ≡ Noop → Fires r w s s' x x'
shared-none (Share []) h d k i = gone d k i rule.share_nothing
shared-none (Share (x ∷ xs)) h d k i = absurd cc
shared-none _ h d k i = absurd cc

fewer-or : (o : Option Value) (x : Text) (n : ℕ) (xs : List Text) → length xs ≤ n → length (unless_known o x xs) ≤ n + 1
fewer-or None x n xs h = omega arith
fewer-or (Some v) x n xs h = omega arith

no_more : (ks : List Known) (xs : List Text) → length (unknown ks xs) ≤ length xs
no_more ks [] = omega arith
no_more ks (x ∷ xs) = omega (arith, fewer-or (look ks x) x (length xs) (unknown ks xs) (no_more ks xs))

fewer-by : (o : Option Value) (x : Text) (known : Bool) (n : ℕ) (xs : List Text) → is_some o || known ≡ true → length xs ≤ n → (known ≡ true → length xs < n) → length (unless_known o x xs) < n + 1
fewer-by None x known n xs h i k = let z = k h in omega arith
fewer-by (Some v) x known n xs h i k = omega arith

-- names that are known go
fewer : (ks : List Known) (xs : List Text) → knows_some ks xs ≡ true → length (unknown ks xs) < length xs
fewer ks [] h = absurd cc
fewer ks (x ∷ xs) h = omega (arith, fewer-by (look ks x) x (knows_some ks xs) (length xs) (unknown ks xs) h (no_more ks xs) (fewer ks xs))

pub shared : {r : Engine} {w : Bool} {s s' : Progress} (xs ys : List Text) → ys ≡ unknown s.known xs → knows_some s.known xs ≡ true → s'.is_dirty ≡ true → s'.known ≡ s.known → Fires r w s s' (Share xs) (Share ys)
shared {r = r} {w = w} {s = s} {s' = s'} xs ys e h d k =
    subst (λ a. Fires r w s s' (Share xs) (Share a)) (sym e) (fires d k (rule.share_known (fewer s.known xs h)) (keeps_share xs _))
