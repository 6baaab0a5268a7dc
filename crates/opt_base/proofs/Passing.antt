-- Passes over the parts of a node.
use Rattle.std.proofs.Common.{◌≡◌, ◌<◌, Bool, true, false, refl, sym, ◌∙◌, subst, arith}
use Rattle.theory_meaning.specs.Engine.{Engine}
use Rattle.theory_meaning.specs.Tree.{Expr, Exprs}
use Rattle.theory_meaning.specs.Weight.{expr_weight}
use Rattle.theory_rewriting.specs.Context.{Context}
use Rattle.theory_rewriting.specs.Rewriting.{ExprTo, same_expr, then_expr, by_expr_rule}
use Rattle.theory_rewriting.specs.Rules.{ExprRule}
use Rattle.theory_rewriting.specs.Steps.{Progress, here, Place, MayBecome, ExprSoFar, ExprFired, ExprRewrite, KeepsExprParts}
use Rattle.theory_rewriting.proofs.Firing.{expr_then, may_then, expr_fired_falls}
use Rattle.theory_rewriting.proofs.Weights.{expr_falls}
use Rattle.opt_base.specs.NodeSteps.{ExprStep}
use Rattle.opt_base.specs.Passes.{InTurn, no_change, one_more, NodePass, ExprPass, PassStep}

then_parts : {e e1 e2 : Expr} → KeepsExprParts e e1 → KeepsExprParts e1 e2 → KeepsExprParts e e2
then_parts p q = record { parts = λ r h. q.parts r (p.parts r h); clear = λ ks h. q.clear ks (p.clear ks h) }

-- ---- rules at a node until none fires

pub expr_passed : {r : Engine} {p : Place} {s s1 s2 : Progress} {e e1 e2 : Expr} → ExprSoFar r p s s1 e e1 → ExprPass r p s1 s2 e1 e2 → ExprSoFar r p s s2 e e2
expr_passed {p = p} f q = record {
  to = expr_then f.known f.to q.to;
  stays = may_then p _ _ _ f.stays q.stays;
  keeps = then_parts f.keeps q.keeps;
  known = q.known ∙ f.known;
}

pub expr_pass_falls : {r : Engine} {p : Place} {s s' : Progress} {e e' : Expr} → ExprPass r p s s' e e' → expr_weight e' < expr_weight e
expr_pass_falls q = q.lighter

-- ---- a rule alone

pub rule_passes : {r : Engine} {p : Place} {s s' : Progress} {e e' : Expr} → ExprFired r p s s' e e' → KeepsExprParts e e' → ExprPass r p s s' e e'
rule_passes {r = r} {s = s} {e = e} {e' = e'} f q = record {
  to = subst (λ b. ExprTo (here r s) s.is_dirty b e e') (sym f.fired) (by_expr_rule f.rule);
  stays = f.stays;
  keeps = q;
  lighter = expr_fired_falls f;
  known = f.known;
}

pub step_passes : (fired : Bool) (r : Engine) (p : Place) (s s' : Progress) (e e' : Expr) → ExprStep fired r p s s' e e' → PassStep fired r p s s' e e'
step_passes true r p s s' e e' f = rule_passes f.0 f.1
step_passes false r p s s' e e' f = f

-- ---- what rules made took a node's place

pub rewrite_passes : {r : Engine} {p : Place} {s s' : Progress} {e e' : Expr} → s'.is_dirty ≡ true → s'.known ≡ s.known → ExprRewrite p e e' → ExprPass r p s s' e e'
rewrite_passes {r = r} {s = s} d k q = rule_passes (record { rule = q.rule (here r s); stays = q.stays; fired = d; known = k }) q.keeps

pub pass_put : {r : Engine} {p : Place} {s s' : Progress} {e e' : Expr} → s'.is_dirty ≡ true → s'.known ≡ s.known → NodePass e e' → ExprPass r p s s' e e'
pass_put {r = r} {p = p} {s = s} {e = e} {e' = e'} d k q = record {
  to = subst (λ b. ExprTo (here r s) s.is_dirty b e e') (sym d) (q.to (here r s) s.is_dirty);
  stays = q.stays p;
  keeps = q.keeps;
  lighter = omega (arith, expr_falls (q.to (here r s) false));
  known = k;
}

-- ---- changes of a list

pub turn_then : {R : Exprs → Exprs → Type 0} {es es1 es2 : Exprs} → InTurn R es es1 → InTurn R es1 es2 → InTurn R es es2
turn_then p no_change = p
turn_then p (one_more q r) = one_more (turn_then p q) r

-- what may become of a node by changes of its parts
pub record Changes (R : Exprs → Exprs → Type 0) (node : Exprs → Expr) : Type 0 where
  pub rule : (k : Context) (es es' : Exprs) → R es es' → ExprRule k (node es) (node es')
  pub stays : (p : Place) (es es' : Exprs) → MayBecome p (node es) (node es')
  pub keeps : (es es' : Exprs) → R es es' → KeepsExprParts (node es) (node es')

turn_to : {R : Exprs → Exprs → Type 0} {node : Exprs → Expr} {es es' : Exprs} → Changes R node → InTurn R es es' → (k : Context) (d : Bool) → (d' : Bool) × ExprTo k d d' (node es) (node es')
turn_to c no_change k d = (d, same_expr)
turn_to c (one_more p q) k d = let z = turn_to c p k d in (true, then_expr z.1 (by_expr_rule (c.rule k _ _ q)))

turn_keeps : {R : Exprs → Exprs → Type 0} {node : Exprs → Expr} {es es' : Exprs} → Changes R node → InTurn R es es' → KeepsExprParts (node es) (node es')
turn_keeps c no_change = record { parts = λ r h. h; clear = λ ks h. h }
turn_keeps c (one_more p q) = then_parts (turn_keeps c p) (c.keeps _ _ q)

pub turns_pass : {R : Exprs → Exprs → Type 0} {node : Exprs → Expr} {es es' : Exprs} → Changes R node → InTurn R es es' → (es ≡ es' → ⊥) → NodePass (node es) (node es')
turns_pass c no_change n = absurd (n refl)
turns_pass c (one_more p q) n = record {
  to = λ k d. then_expr (turn_to c p k d).1 (by_expr_rule (c.rule k _ _ q));
  stays = λ p. c.stays p _ _;
  keeps = then_parts (turn_keeps c p) (c.keeps _ _ q);
}
