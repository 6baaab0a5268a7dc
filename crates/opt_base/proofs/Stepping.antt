-- What came of a node, by what was put in its place.
use Rattle.std.proofs.Common.{◌≡◌, Bool, true, false, None, refl, sym, subst}
use Rattle.theory_meaning.specs.Engine.{Engine}
use Rattle.theory_meaning.specs.Tree.{Expr, Stmt}
use Rattle.theory_meaning.specs.Walk.{OfExpr, OfStmt}
use Rattle.theory_rewriting.specs.Clear.{known_value}
use Rattle.theory_rewriting.specs.Normal.{HasNormalParts}
use Rattle.theory_rewriting.specs.Residue.{IsReducedNode}
use Rattle.theory_rewriting.specs.Steps.{AnswersNone, Progress, here, Place, Anywhere, NoExprRule, NoStmtRule, ExprRewrite, StmtFired, KeepsStmtParts, StmtKept, StmtRewrite}
use Rattle.theory_rewriting.proofs.Firing.{stmt_fired_by}
use Rattle.opt_base.specs.declared.step.NodeStep.{NodeStep}
use Rattle.opt_base.specs.NodeSteps.{ExprStep, StmtStep, step_by}

-- ---- trees that are spelled so

pub expr_rewrite_as : {p : Place} {e e1 e' e1' : Expr} → e ≡ e1 → e' ≡ e1' → ExprRewrite p e1 e1' → ExprRewrite p e e'
expr_rewrite_as {p = p} {e1 = e1} {e' = e'} x y r = subst (λ a. ExprRewrite p a e') (sym x) (subst (λ b. ExprRewrite p e1 b) (sym y) r)

pub stmt_rewrite_as : {o w : Bool} {s s1 s' s1' : Stmt} → s ≡ s1 → s' ≡ s1' → StmtRewrite o w s1 s1' → StmtRewrite o w s s'
stmt_rewrite_as {o = o} {w = w} {s1 = s1} {s' = s'} x y r = subst (λ a. StmtRewrite o w a s') (sym x) (subst (λ b. StmtRewrite o w s1 b) (sym y) r)

-- ---- what came of a node

pub expr_stays : {r : Engine} {p : Place} {s : Progress} {e : Expr} → IsReducedNode r (OfExpr e) → AnswersNone e → (p ≡ Anywhere → known_value s.known e ≡ None) → (HasNormalParts (here r s) e → NoExprRule (here r s) p e) → ExprStep false r p s s e e
expr_stays h a u n = record { same = refl; state = refl; answers = a; reduced = λ g. h; unknown = u; settled = λ g. n }

pub stmt_stays : {r : Engine} {s : Progress} {x : Stmt} → IsReducedNode r (OfStmt x) → NoStmtRule (here r s) x → StmtKept r s s x x
stmt_stays h n = record { same = refl; state = refl; reduced = h; settled = λ w g. n }

-- ---- what a rule made took a node's place

pub expr_put : {r : Engine} {p : Place} {s s' : Progress} {e e' : Expr} → s'.is_dirty ≡ true → s'.known ≡ s.known → ExprRewrite p e e' → ExprStep true r p s s' e e'
expr_put {r = r} {s = s} d k q = (record { rule = q.rule (here r s); stays = q.stays; fired = d; known = k }, q.keeps)

pub stmt_put : (r : Engine) (o w : Bool) (s s' : Progress) (x x' : Stmt) (n : NodeStep) → n ≡ step_by o → s'.is_dirty ≡ true → s'.known ≡ s.known → StmtRewrite o w x x' → StmtStep n r w s s' x x'
stmt_put r o w s s' x x' n h d k q = subst (λ n. StmtStep n r w s s' x x') (sym h) (by o q) where
  by : (o : Bool) → StmtRewrite o w x x' → StmtStep (step_by o) r w s s' x x'
  by true q = stmt_fired_by d k (q.rule (here r s))
  by false q = (stmt_fired_by d k (q.rule (here r s)), q.keeps refl)

-- what fired may be gone over again, or not
pub fired_step : {r : Engine} {w : Bool} {s s' : Progress} {x x' : Stmt} {n : NodeStep} (o : Bool) → n ≡ step_by o → StmtFired r w s s' x x' × KeepsStmtParts x x' → StmtStep n r w s s' x x'
fired_step {r = r} {w = w} {s = s} {s' = s'} {x = x} {x' = x'} o h q = subst (λ n. StmtStep n r w s s' x x') (sym h) (by o) where
  by : (o : Bool) → StmtStep (step_by o) r w s s' x x'
  by true = q.0
  by false = q

-- at a statement whose parts were not gone over
pub rewrite_decided : {r : Engine} {o w : Bool} {s s' : Progress} {x x' : Stmt} → s'.is_dirty ≡ true → s'.known ≡ s.known → StmtRewrite o w x x' → StmtFired r w s s' x x'
rewrite_decided {r = r} {s = s} d k q = stmt_fired_by d k (q.rule (here r s))
