-- Rules that fired.
use Rattle.std.proofs.Common.{◌≡◌, Bool, true, false, Some, refl, sym, subst}
use Rattle.theory_meaning.specs.Constants.{constant_bool}
use Rattle.theory_meaning.specs.Engine.{Engine}
use Rattle.theory_meaning.specs.Tree.{Expr, UnitConstant, Stmt, Noop, While, TryCatch, Stmts, no_stmts, stmt}
use Rattle.theory_rewriting.specs.Rules as rule
use Rattle.theory_rewriting.specs.Steps.{Progress, here, StmtRewrite}
use Rattle.theory_rewriting.proofs.Keeping.{keeps_loop}
use Rattle.opt_stmts.specs.Firing.{Fires}
use Rattle.opt_stmts.proofs.FiredAssignments.{fires, gone}
use Rattle.opt_stmts.specs.SettledStatements.{decided_loop, is_settled_try}

-- what a rule made took the place of a statement
pub fires_by : {r : Engine} {w : Bool} {s s' : Progress} {x x' : Stmt} → s'.is_dirty ≡ true → s'.known ≡ s.known → StmtRewrite false w x x' → Fires r w s s' x x'
fires_by {r = r} {s = s} d k q = fires d k (q.rule (here r s)) (q.keeps refl)

-- ---- `try`

pub tried : {r : Engine} {w : Bool} {s s' : Progress} {x' : Stmt} (x : Stmt) → is_settled_try x ≡ false → s'.is_dirty ≡ true → s'.known ≡ s.known → x' ≡ Noop → Fires r w s s' x x'
tried (TryCatch x no_stmts b) h d k i = gone d k i (rule.pure_try refl)
tried (TryCatch x (stmt s a) b) h d k i = absurd cc
tried _ h d k i = absurd cc

-- ---- loops

pub unlooped : {r : Engine} {w : Bool} {s s' : Progress} {x' : Stmt} (x : Stmt) → decided_loop x ≡ Some false → s'.is_dirty ≡ true → s'.known ≡ s.known → x' ≡ Noop → Fires r w s s' x x'
unlooped (While e b) h d k i = gone d k i (rule.while_false h)
unlooped _ h d k i = absurd cc

pub looped : {r : Engine} {w : Bool} {s s' : Progress} {x' : Stmt} (e : Expr) (b : Stmts) → x' ≡ While UnitConstant b → constant_bool e ≡ Some true → s'.is_dirty ≡ true → s'.known ≡ s.known → Fires r w s s' (While e b) x'
looped {r = r} {w = w} {s = s} {s' = s'} e b j h d k = subst (λ a. Fires r w s s' (While e b) a) (sym j) (fires d k (rule.while_true h) (keeps_loop e b))

-- ---- trees that are spelled so

pub fires_as : {r : Engine} {w : Bool} {s s' : Progress} {x x1 x' x1' : Stmt} → x ≡ x1 → x' ≡ x1' → Fires r w s s' x1 x1' → Fires r w s s' x x'
fires_as {r = r} {w = w} {s = s} {s' = s'} {x1 = x1} {x' = x'} i j q = subst (λ a. Fires r w s s' a x') (sym i) (subst (λ a. Fires r w s s' x1 a) (sym j) q)
