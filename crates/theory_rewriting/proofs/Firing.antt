-- Rules at a node until none fires, and lists that were rewritten behind their front.
use Rattle.std.proofs.Common.{◌≡◌, ◌<◌, ◌≤◌, Bool, true, false, List, None, refl, sym, ap, ◌∙◌, subst, arith}
use Rattle.theory_meaning.specs.Desugar.{root_of}
use Rattle.theory_meaning.specs.Engine.{Engine}
use Rattle.theory_meaning.specs.Queries.{is_unit}
use Rattle.theory_meaning.specs.Tree.{Expr, Variable, BlockExpr, And, Or, Coalesce, Stmt, Stmts, no_stmts, stmt, joined, Arms, no_arms, arm}
use Rattle.theory_meaning.specs.Weight.{expr_weight, stmt_weight}
use Rattle.theory_rewriting.specs.Clear.{known_value, IsClearExpr, HasClearParts, IsClear}
use Rattle.theory_rewriting.specs.Context.{Context, knowing, behind, ListKind, ListContext}
use Rattle.theory_rewriting.specs.Known.{Known}
use Rattle.theory_rewriting.specs.Rewriting.{ExprTo, same_expr, then_expr, by_expr_rule, StmtTo, same_stmt, then_stmt, by_stmt_rule, RestTo, in_tail, ArmsTo, arms_none, arms_more}
use Rattle.theory_rewriting.specs.Rules.{ExprRule, StmtRule}
use Rattle.theory_rewriting.specs.Steps.{Progress, here, Place, Anywhere, AsBase, AsGuard, MayBecome, NoExprRule, NoStmtRule, IsNormalAt, ExprRun, ExprPartsRun, ExprSoFar, ExprReduced, ExprFired, KeepsExprParts, ExprKept, StmtRun, StmtPartsRun, StmtSoFar, StmtReduced, StmtPassed, SubjectRun, StmtFired, KeepsStmtParts, StmtKept}
use Rattle.theory_rewriting.specs.SurelyUnit.{is_surely_unit}
use Rattle.theory_rewriting.specs.Normal.{IsNormal, HasNormalParts, StmtHasNormalParts}
use Rattle.theory_rewriting.proofs.Flags as flag
use Rattle.theory_rewriting.proofs.Normal.{normal_at, stmt_normal}
use Rattle.theory_rewriting.proofs.Weights.{expr_falls, stmt_falls}
use Rattle.theory_rewriting.proofs.rules.Expressions.{expr_rule}
use Rattle.theory_rewriting.proofs.rules.Statements.{stmt_rule}

-- ---- the same names are known

-- a derivation after one that left the names as they were
pub expr_then : {r : Engine} {ks ks1 : List Known} {d d1 d2 : Bool} {e e1 e2 : Expr} → ks1 ≡ ks → ExprTo (knowing r ks) d d1 e e1 → ExprTo (knowing r ks1) d1 d2 e1 e2 → ExprTo (knowing r ks) d d2 e e2
expr_then {r = r} {d1 = d1} {d2 = d2} {e1 = e1} {e2 = e2} h p q = then_expr p (subst (λ ks. ExprTo (knowing r ks) d1 d2 e1 e2) h q)

pub stmt_then : {r : Engine} {w : Bool} {ks ks1 : List Known} {d d1 d2 : Bool} {x x1 x2 : Stmt} → ks1 ≡ ks → StmtTo (knowing r ks) w d d1 x x1 → StmtTo (knowing r ks1) w d1 d2 x1 x2 → StmtTo (knowing r ks) w d d2 x x2
stmt_then {r = r} {w = w} {d1 = d1} {d2 = d2} {x1 = x1} {x2 = x2} h p q = then_stmt p (subst (λ ks. StmtTo (knowing r ks) w d1 d2 x1 x2) h q)

pub may_stay : (p : Place) (e : Expr) → MayBecome p e e
may_stay Anywhere e = tt
may_stay AsBase e = refl
may_stay AsGuard e = refl

pub may_then : (p : Place) (e e1 e2 : Expr) → MayBecome p e e1 → MayBecome p e1 e2 → MayBecome p e e2
may_then Anywhere e e1 e2 x y = tt
may_then AsBase e e1 e2 x y = y ∙ x
may_then AsGuard e e1 e2 x y = y ∙ x

may_keep : (p : Place) (e e' : Expr) → root_of e' ≡ root_of e → is_unit e' ≡ is_unit e → MayBecome p e e'
may_keep Anywhere e e' x y = tt
may_keep AsBase e e' x y = x
may_keep AsGuard e e' x y = y

-- ---- a rule that fired is part of the rewriting

fired_to : {k : Context} {d d' : Bool} {e e' : Expr} → d' ≡ true → ExprRule k e e' → ExprTo k d d' e e'
fired_to {k = k} {d = d} {e = e} {e' = e'} h r = subst (λ b. ExprTo k d b e e') (sym h) (by_expr_rule r)

pub stmt_fired_by : {r : Engine} {w : Bool} {s s' : Progress} {x x' : Stmt} → s'.is_dirty ≡ true → s'.known ≡ s.known → StmtRule (here r s) w x x' → StmtFired r w s s' x x'
stmt_fired_by {r = r} {w = w} {s = s} {x = x} {x' = x'} h k q = record { to = subst (λ b. StmtTo (here r s) w s.is_dirty b x x') (sym h) (by_stmt_rule q); lighter = (stmt_rule q).lighter; known = k }

-- ---- rules at an expression whose parts are reduced, until none fires

same_expr_parts : (e : Expr) → KeepsExprParts e e
same_expr_parts e = record { parts = λ r h. h; clear = λ ks h. h }

then_expr_parts : {e e1 e2 : Expr} → KeepsExprParts e e1 → KeepsExprParts e1 e2 → KeepsExprParts e e2
then_expr_parts p q = record { parts = λ r h. q.parts r (p.parts r h); clear = λ ks h. q.clear ks (p.clear ks h) }

pub expr_start : {r : Engine} {p : Place} {s : Progress} {e : Expr} → ExprSoFar r p s s e e
expr_start {p = p} {e = e} = record { to = same_expr; stays = may_stay p e; keeps = same_expr_parts e; known = refl }

pub expr_fired : {r : Engine} {p : Place} {s s1 s2 : Progress} {e e1 e2 : Expr} → ExprSoFar r p s s1 e e1 → ExprFired r p s1 s2 e1 e2 → KeepsExprParts e1 e2 → ExprSoFar r p s s2 e e2
expr_fired {p = p} f q h = record {
  to = expr_then f.known f.to (fired_to q.fired q.rule);
  stays = may_then p _ _ _ f.stays q.stays;
  keeps = then_expr_parts f.keeps h;
  known = q.known ∙ f.known;
}

clear_node : (ks : List Known) (e : Expr) → known_value ks e ≡ None → HasClearParts ks e → IsClearExpr ks e
clear_node ks (Variable ns x) h p = h
clear_node ks (BlockExpr ss) h p = p
clear_node ks (And es) h p = p
clear_node ks (Or es) h p = p
clear_node ks (Coalesce es) h p = p
clear_node ks _ h p = tt

pub expr_kept : {r : Engine} {p : Place} {s s1 s2 : Progress} {e e1 e2 : Expr} → ExprSoFar r p s s1 e e1 → ExprKept r p s1 s2 e1 e2 → ExprReduced r p s s2 e e2
expr_kept {r = r} {p = p} {s = s} {s1 = s1} {e = e} {e1 = e1} {e2 = e2} f q =
    let z : ExprReduced r p s s1 e e1 = record {
      to = f.to;
      stays = f.stays;
      answers = q.answers;
      reduced = λ h. let g = f.keeps.parts r h in (q.reduced g, g);
      clear = λ i h. clear_node s.known e1 (subst (λ ks. known_value ks e1 ≡ None) f.known (q.unknown i)) (f.keeps.clear s.known h);
      known = f.known;
      normal = λ i g h.
          let k = subst (HasNormalParts (here r s)) (flag.expr_kept f.to i).1 h in
          normal_at p e1 k (subst (λ ks. HasNormalParts (knowing r ks) e1 → NoExprRule (knowing r ks) p e1) f.known (q.settled (f.keeps.parts r g)) k);
    } in
    subst (λ t. ExprReduced r p s t e e2) (sym q.state) (subst (λ a. ExprReduced r p s s1 e a) (sym q.same) z)

-- each rule that fires lowers the weight
pub expr_fired_falls : {r : Engine} {p : Place} {s s' : Progress} {e e' : Expr} → ExprFired r p s s' e e' → expr_weight e' < expr_weight e
expr_fired_falls f = (expr_rule f.rule).lighter

-- its parts, then these rules
pub expr_done : {r : Engine} {p : Place} {s s1 s2 : Progress} {e e1 e2 : Expr} → ExprPartsRun r s s1 e e1 → ExprReduced r p s1 s2 e1 e2 → ExprRun r p s s2 e e2
expr_done {r = r} {p = p} {e1 = e1} {e2 = e2} f q = record {
  to = expr_then f.known f.to q.to;
  stays = may_then p _ _ _ (may_keep p _ _ f.place f.unit) q.stays;
  answers = q.answers;
  reduced = q.reduced f.parts;
  clear = λ h. subst (λ ks. IsClearExpr ks e2) f.known (q.clear h (subst (λ ks. HasClearParts ks e1) (sym f.known) f.clear));
  known = q.known ∙ f.known;
  normal = λ h. subst (λ ks. HasNormalParts (knowing r ks) e1 → IsNormalAt p (knowing r ks) e2) f.known (q.normal h f.parts) (f.normal (flag.expr_kept q.to h).0);
}

pub expr_parts_fit : {r : Engine} {s s' : Progress} {e e' : Expr} → ExprPartsRun r s s' e e' → expr_weight e' ≤ expr_weight e
expr_parts_fit q = omega (arith, expr_falls q.to)

-- ---- a statement likewise

-- arms that stay
pub same_arms : {k : Context} {d : Bool} (as' : Arms) → ArmsTo k d d as' as'
same_arms no_arms = arms_none
same_arms (arm c a as') = arms_more same_expr same_expr (same_arms as')

same_stmt_parts : (x : Stmt) → KeepsStmtParts x x
same_stmt_parts x = record { parts = λ r h. h; clear = λ ks h. h }

then_stmt_parts : {x x1 x2 : Stmt} → KeepsStmtParts x x1 → KeepsStmtParts x1 x2 → KeepsStmtParts x x2
then_stmt_parts p q = record { parts = λ r h. q.parts r (p.parts r h); clear = λ ks h. q.clear ks (p.clear ks h) }

pub stmt_start : {r : Engine} {w : Bool} {s : Progress} {x : Stmt} → StmtSoFar r w s s x x
stmt_start {x = x} = record { to = same_stmt; keeps = same_stmt_parts x; known = refl }

pub stmt_fired : {r : Engine} {w : Bool} {s s1 s2 : Progress} {x x1 x2 : Stmt} → StmtSoFar r w s s1 x x1 → StmtFired r w s1 s2 x1 x2 → KeepsStmtParts x1 x2 → StmtSoFar r w s s2 x x2
stmt_fired f q h = record {
  to = stmt_then f.known f.to q.to;
  keeps = then_stmt_parts f.keeps h;
  known = q.known ∙ f.known;
}

pub stmt_kept : {r : Engine} {w : Bool} {s s1 s2 : Progress} {x x1 x2 : Stmt} → StmtSoFar r w s s1 x x1 → StmtKept r s1 s2 x1 x2 → StmtReduced r w false s s2 x x2
stmt_kept {r = r} {w = w} {s = s} {s1 = s1} {x = x} {x1 = x1} {x2 = x2} f q =
    let z : StmtReduced r w false s s1 x x1 = record {
      to = f.to;
      reduced = λ i h. (q.reduced, f.keeps.parts r h);
      clear = λ i h. f.keeps.clear s.known h;
      lighter = λ i. absurd cc;
      known = f.known;
      normal = λ i h.
          let g = subst (StmtHasNormalParts (here r s) w) (flag.stmt_kept f.to i).1 h in
          stmt_normal x1 g (subst (λ ks. StmtHasNormalParts (knowing r ks) w x1 → NoStmtRule (knowing r ks) x1) f.known (q.settled w) g);
    } in
    subst (λ t. StmtReduced r w false s t x x2) (sym q.state) (subst (λ a. StmtReduced r w false s s1 x a) (sym q.same) z)

pub stmt_fired_falls : {r : Engine} {w : Bool} {s s' : Progress} {x x' : Stmt} → StmtFired r w s s' x x' → stmt_weight x' < stmt_weight x
stmt_fired_falls f = f.lighter

-- where a rule fired the flag is set
pub fired_sets : {r : Engine} {w : Bool} {s s' : Progress} {x x' : Stmt} → StmtFired r w s s' x x' → s'.is_dirty ≡ false → ⊥
fired_sets f h = let e : stmt_weight _ ≡ stmt_weight _ = ap stmt_weight (flag.stmt_kept f.to h).1 in omega (arith, e, stmt_fired_falls f)

pub stmt_reopened : {r : Engine} {w : Bool} {s s1 s2 : Progress} {x x1 x2 : Stmt} → StmtSoFar r w s s1 x x1 → StmtFired r w s1 s2 x1 x2 → StmtReduced r w true s s2 x x2
stmt_reopened f q = record {
  to = stmt_then f.known f.to q.to;
  reduced = λ i. absurd cc;
  clear = λ i. absurd cc;
  lighter = λ i. omega (arith, stmt_falls f.to, stmt_fired_falls q);
  known = q.known ∙ f.known;
  normal = λ h. absurd (fired_sets q h);
}

-- its parts are gone over, again where a rule made new ones
pub stmt_pass : {r : Engine} {w : Bool} {s : Progress} {x : Stmt} → StmtPassed r w s s x x
stmt_pass = record { to = same_stmt; known = refl }

pub stmt_again : {r : Engine} {w : Bool} {s s1 s2 s3 : Progress} {x x1 x2 x3 : Stmt} → StmtPassed r w s s1 x x1 → StmtPartsRun r w s1 s2 x1 x2 → StmtReduced r w true s2 s3 x2 x3 → StmtPassed r w s s3 x x3
stmt_again f q z = record { to = stmt_then f.known f.to (stmt_then q.known q.to z.to); known = z.known ∙ q.known ∙ f.known }

pub stmt_again_falls : {r : Engine} {w : Bool} {s1 s2 s3 : Progress} {x1 x2 x3 : Stmt} → StmtPartsRun r w s1 s2 x1 x2 → StmtReduced r w true s2 s3 x2 x3 → stmt_weight x3 < stmt_weight x1
stmt_again_falls q z = omega (arith, stmt_falls q.to, z.lighter refl)

-- or a rule fired before they were
pub stmt_early : {r : Engine} {w : Bool} {s s1 s2 : Progress} {x x1 x2 : Stmt} → StmtPassed r w s s1 x x1 → StmtFired r w s1 s2 x1 x2 → StmtPassed r w s s2 x x2
stmt_early f q = record { to = stmt_then f.known f.to q.to; known = q.known ∙ f.known }

pub subject_then : {r : Engine} {w : Bool} {s s1 s2 : Progress} {x x1 x2 : Stmt} → SubjectRun r w s s1 x x1 → StmtPartsRun r w s1 s2 x1 x2 → StmtPartsRun r w s s2 x x2
subject_then {r = r} {w = w} {x2 = x2} f q = record {
  to = stmt_then f.known f.to q.to;
  parts = q.parts;
  clear = subst (λ ks. IsClear ks x2) f.known q.clear;
  known = q.known ∙ f.known;
  normal = λ h. subst (λ ks. StmtHasNormalParts (knowing r ks) w x2) f.known (q.normal h);
}

pub subject_fired : {r : Engine} {w : Bool} {s s1 s2 : Progress} {x x1 x2 : Stmt} → SubjectRun r w s s1 x x1 → StmtFired r w s1 s2 x1 x2 → StmtFired r w s s2 x x2
subject_fired f q = record { to = stmt_then f.known f.to q.to; lighter = omega (arith, stmt_falls f.to, q.lighter); known = q.known ∙ f.known }

pub subject_fits : {r : Engine} {w : Bool} {s s' : Progress} {x x' : Stmt} → SubjectRun r w s s' x x' → stmt_weight x' ≤ stmt_weight x
subject_fits f = omega (arith, stmt_falls f.to)

pub stmt_fits : {r : Engine} {w : Bool} {s s' : Progress} {x x' : Stmt} → StmtPassed r w s s' x x' → stmt_weight x' ≤ stmt_weight x
stmt_fits f = omega (arith, stmt_falls f.to)

pub stmt_done : {r : Engine} {w : Bool} {s s1 s2 s3 : Progress} {x x1 x2 x3 : Stmt} → StmtPassed r w s s1 x x1 → StmtPartsRun r w s1 s2 x1 x2 → StmtReduced r w false s2 s3 x2 x3 → StmtRun r w s s3 x x3
stmt_done {r = r} {w = w} {x2 = x2} {x3 = x3} f q z = record {
  to = stmt_then f.known f.to (stmt_then q.known q.to z.to);
  reduced = z.reduced refl q.parts;
  clear = subst (λ ks. IsClear ks x3) (q.known ∙ f.known) (z.clear refl (subst (λ ks. IsClear ks x2) (sym q.known) q.clear));
  known = z.known ∙ q.known ∙ f.known;
  normal = λ h. subst (λ ks. IsNormal (StmtTo (knowing r ks) w) x3) (q.known ∙ f.known) (z.normal h (subst (λ ks. StmtHasNormalParts (knowing r ks) w x2) (sym q.known) (q.normal (flag.stmt_kept z.to h).0)));
}

-- ---- behind statements that stay

-- what is known there, and whether what stands before is surely unit
abbrev pub behind_all : Stmts → ListContext → ListContext
behind_all no_stmts k = k
behind_all (stmt s front) k = behind_all front (behind s k)

abbrev pub unit_behind : Stmts → Bool → Bool
unit_behind no_stmts u = u
unit_behind (stmt s front) u = unit_behind front (is_surely_unit s)

pub in_back : (front : Stmts) {k : ListContext} {m : ListKind} {u d d' : Bool} {ss ss' : Stmts} → RestTo (behind_all front k) m (unit_behind front u) d d' ss ss' → RestTo k m u d d' (joined front ss) (joined front ss')
in_back no_stmts p = p
in_back (stmt s front) p = in_tail (in_back front p)
