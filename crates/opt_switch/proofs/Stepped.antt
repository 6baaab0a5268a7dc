-- What came of a `switch`.
use Rattle.std.proofs.Common.{◌≡◌, ℕ, Bool, true, false, List, Some, sym, ap, ◌∙◌, subst, replicate, length}
use Rattle.std.specs.Prelude.{slice_get}
use Rattle.ast_types.specs.declared.block.StmtBlock.{StmtBlock}
use Rattle.ast_types.specs.declared.expr.BinaryExpr.{BinaryExpr}
use Rattle.ast_types.specs.declared.expr.Expr as declared_expr
use Rattle.ast_types.specs.declared.expr.Expr.TheOpen as open_one
use Rattle.ast_types.specs.declared.expr.Expr.TheViews as views
use Rattle.ast_types.specs.declared.expr.FnCallExpr.{FnCallExpr}
use Rattle.ast_types.specs.declared.stmt.FlowControl.{FlowControl}
use Rattle.ast_types.specs.declared.stmt.Stmt as declared_stmt
use Rattle.ast_types.specs.declared.switch.SwitchBlock.{SwitchBlock}
use Rattle.ast_types.specs.declared.switch.SwitchCasesCollection.{SwitchCasesCollection}
use Rattle.rhai_base.specs.Value.{Value}
use Rattle.theory_meaning.specs.Constants.{constant_value}
use Rattle.theory_meaning.specs.Control.{case_for}
use Rattle.theory_meaning.specs.Engine.{Engine}
use Rattle.theory_meaning.specs.Shape.{names_arm}
use Rattle.theory_meaning.specs.Tree.{Expr, Arms, count_arms, Stmt, Switch, SwitchTable}
use Rattle.theory_meaning.specs.Walk.{listed}
use Rattle.ast_types.specs.Reading.{arms_of, cases_of, expr_of, expressions_of, subject_of, table_by, table_of}
use Rattle.theory_rewriting.specs.Context.{Context}
use Rattle.theory_rewriting.specs.Rewriting.{StmtTo}
use Rattle.theory_rewriting.specs.Rules.{StmtRule, switch_narrows, switch_shrinks}
use Rattle.theory_rewriting.specs.Steps.{Progress, here, StmtFired, KeepsStmtParts}
use Rattle.theory_rewriting.proofs.Firing.{stmt_fired_by}
use Rattle.theory_rewriting.proofs.rules.Narrowed.{listed_kept}
use Rattle.theory_rewriting.proofs.rules.Shrunk.{listed_still}
use Rattle.opt_base.specs.declared.step.NodeStep.TheVariants as step
use Rattle.opt_base.specs.NodeSteps.{StmtStep}
use Rattle.opt_switch.specs.declared.choice.Choice.TheVariants.{Several}
use Rattle.opt_switch.specs.Deciding.{choice_at}
use Rattle.opt_switch.specs.Forgetting.{marked, forgets, loses_answers}
use Rattle.opt_switch.specs.Steps.{is_switch, switch_of, Noted, Shrinks, Narrows, marks_of, Forgets, IsNarrowOver, IsNarrow, IsShrunk, HasForgotten, IsSmall, TableStep}
use Rattle.opt_switch.proofs.ArmPlaces.{counted}
use Rattle.opt_switch.proofs.Forgotten.{Forgot, all_forget, unnamed}
use Rattle.opt_switch.proofs.Keeping.{keeps_table, keeps_forgotten}
use Rattle.opt_switch.proofs.Kept.{undecided}
use Rattle.opt_switch.proofs.Settled.{no_rule}

-- ---- a `switch` whose table was written

abbrev SwitchLayer : Type 0
SwitchLayer = open_one.SwitchBlock-F declared_expr.Expr declared_stmt.Stmt StmtBlock BinaryExpr FnCallExpr FlowControl SwitchBlock SwitchCasesCollection

abbrev TableLayer : Type 0
TableLayer = open_one.SwitchCasesCollection-F declared_expr.Expr declared_stmt.Stmt StmtBlock BinaryExpr FnCallExpr FlowControl SwitchBlock SwitchCasesCollection

abbrev pub with_table : SwitchBlock → SwitchCasesCollection → SwitchBlock
with_table b t = views.roll-SwitchBlock (record (views.out-SwitchBlock b) { cases = t })

pub table_put : (b : SwitchBlock) (t : SwitchCasesCollection) → switch_of (with_table b t) ≡ Switch (expr_of (subject_of b)) (arms_of (expressions_of t)) (table_of t)
table_put b t =
    let o = views.out-roll-SwitchBlock (record (views.out-SwitchBlock b) { cases = t }) in
    ap (λ (y : SwitchLayer). Switch (expr_of y.expr) (arms_of (expressions_of y.cases)) (table_of y.cases)) o

abbrev pub with_arms : SwitchCasesCollection → List BinaryExpr → SwitchCasesCollection
with_arms t xs = views.roll-SwitchCasesCollection (record (views.out-SwitchCasesCollection t) { expressions = xs })

pub arms_put : (t : SwitchCasesCollection) (xs : List BinaryExpr) → arms_of (expressions_of (with_arms t xs)) ≡ arms_of xs
arms_put t xs = ap (λ (y : TableLayer). arms_of y.expressions) (views.out-roll-SwitchCasesCollection (record (views.out-SwitchCasesCollection t) { expressions = xs }))

pub table_kept : (t : SwitchCasesCollection) (xs : List BinaryExpr) → table_of (with_arms t xs) ≡ table_of t
table_kept t xs = ap (λ (y : TableLayer). table_by y.cases y.ranges y.def_case) (views.out-roll-SwitchCasesCollection (record (views.out-SwitchCasesCollection t) { expressions = xs }))

-- the marks of its arms
pub marks_are : (t : SwitchCasesCollection) → marked (replicate (length (expressions_of t)) false) (listed (table_of t)) ≡ marks_of (arms_of (expressions_of t)) (table_of t)
marks_are t = ap (λ n. marked (replicate n false) (listed (table_of t))) (sym (counted (expressions_of t)))

-- ---- what came of the table

-- a rule fired
rule_step : (W : Stmt → Type 0) {s s' : Progress} {x x1 x' : Stmt} → Noted true s s' → x' ≡ x1 → ((k : Context) (w : Bool) → StmtRule k w x x1) → KeepsStmtParts x x1 → TableStep W true s s' x x'
rule_step W {s = s} {s' = s'} {x = x} n h q p = subst (λ y. TableStep W true s s' x y) (sym h) ((λ r w. stmt_fired_by n.0 n.1 (q (here r s) w)), p)

pub shrink_step : (s s' : Progress) (e : Expr) (as' : Arms) (t t' : SwitchTable) (b : Bool) → Noted b s s' → Shrinks b as' t t' → TableStep IsShrunk b s s' (Switch e as' t) (Switch e as' t')
shrink_step s s' e as' t t' true n h = rule_step IsShrunk n (ap (Switch e as') h.1.1) (λ k w. switch_shrinks h.0 h.1.0) (keeps_table e as' t _ (λ Q. listed_still as' Q t))
shrink_step s s' e as' t t' false n h = (ap (Switch e as') h.1, (n, h.0))

pub narrow_step : (s s' : Progress) (e : Expr) (as' : Arms) (t t' : SwitchTable) (v : Value) → constant_value e ≡ Some v → (b : Bool) → Noted b s s' → Narrows b as' v t t' → TableStep IsNarrow b s s' (Switch e as' t) (Switch e as' t')
narrow_step s s' e as' t t' v c true n h = rule_step IsNarrow n (ap (Switch e as') h.1.1) (λ k w. switch_narrows v c h.0 h.1.0) (keeps_table e as' t _ (λ Q. listed_kept as' v Q t (case_for t.cases v)))
narrow_step s s' e as' t t' v c false n h = (ap (Switch e as') h.1, (n, subst (IsNarrowOver as' t) (sym c) h.0))

unlisted : (as' : Arms) (t : SwitchTable) (i : ℕ) → slice_get (marks_of as' t) i ≡ Some false → names_arm i (listed t) ≡ false
unlisted as' t i h = (unnamed (replicate (count_arms as') false) (listed t) i h).1

forgot_here : {s s' : Progress} (e : Expr) (t : SwitchTable) (as' : Arms) (b : Bool) → Noted true s s' → b ≡ true → ((k : Context) → Forgot k b (Switch e as' t) (Switch e (forgets (marks_of as' t) as') t)) → (r : Engine) (w : Bool) → StmtFired r w s s' (Switch e as' t) (Switch e (forgets (marks_of as' t) as') t)
forgot_here {s = s} e t as' true n h f r w =
    let z = f (here r s) in
    record { to = subst (λ d. StmtTo (here r s) w s.is_dirty d (Switch e as' t) (Switch e (forgets (marks_of as' t) as') t)) (sym n.0) (z.0 w s.is_dirty); lighter = z.1; known = n.1 }
forgot_here e t as' false n h f r w = absurd (let z : false ≡ true = h in cc)

pub forget_step : (s s' : Progress) (e : Expr) (t : SwitchTable) (as' bs : Arms) (b : Bool) → Forgets b s s' t as' bs → TableStep HasForgotten b s s' (Switch e as' t) (Switch e bs t)
forget_step s s' e t as' bs true h =
    subst (λ y. TableStep HasForgotten true s s' (Switch e as' t) (Switch e y t)) (sym h.1.1)
    (forgot_here e t as' (loses_answers (marks_of as' t) as') h.0 h.1.0 (λ k. all_forget k e t as' (marks_of as' t) (unlisted as' t)), keeps_forgotten e t as' (marks_of as' t) (unlisted as' t))
forget_step s s' e t as' bs false h = (ap (λ y. Switch e y t) h.1.1, (h.0, h.1.0))

-- ---- one step after another that left it as it was

pub kept_then : (V W : Stmt → Type 0) (b : Bool) (s s1 s2 : Progress) (x x1 x2 : Stmt) → TableStep V false s s1 x x1 → TableStep W b s1 s2 x1 x2 → TableStep (λ y. V y × W y) b s s2 x x2
kept_then V W b s s1 s2 x x1 x2 h q = by b (subst (λ y. TableStep W b y s2 x x2) h.1.0 (subst (λ y. TableStep W b s1 s2 y x2) h.0 q)) where
  by : (b : Bool) → TableStep W b s s2 x x2 → TableStep (λ y. V y × W y) b s s2 x x2
  by true z = z
  by false z = (z.0, (z.1.0, (h.1.1, z.1.1)))

-- ---- a `switch` by its declared parts

abbrev pub Stays : (Stmt → Type 0) → Bool → Progress → Progress → SwitchBlock → Arms → SwitchTable → Type 0
Stays W b s s' k bs t = TableStep W b s s' (switch_of k) (Switch (expr_of (subject_of k)) bs t)

pub table_written : (W : Stmt → Type 0) (b : Bool) (s s' : Progress) (k : SwitchBlock) (t : SwitchCasesCollection) → Stays W b s s' k (arms_of (expressions_of t)) (table_of t) → TableStep W b s s' (switch_of k) (switch_of (with_table k t))
table_written W b s s' k t p = subst (λ y. TableStep W b s s' (switch_of k) y) (sym (table_put k t)) p

-- its table alone
pub table_alone : (W : Stmt → Type 0) (b : Bool) (s s' : Progress) (k : SwitchBlock) (t : SwitchCasesCollection) → expressions_of t ≡ expressions_of (cases_of k) → Stays W b s s' k (arms_of (expressions_of (cases_of k))) (table_of t) → TableStep W b s s' (switch_of k) (switch_of (with_table k t))
table_alone W b s s' k t h p = table_written W b s s' k t (subst (λ (l : List BinaryExpr). Stays W b s s' k (arms_of l) (table_of t)) (sym h) p)

-- its arms alone
pub arms_alone : (W : Stmt → Type 0) (b : Bool) (s s' : Progress) (k : SwitchBlock) (t : SwitchCasesCollection) → table_of t ≡ table_of (cases_of k) → Stays W b s s' k (arms_of (expressions_of t)) (table_of (cases_of k)) → TableStep W b s s' (switch_of k) (switch_of (with_table k t))
arms_alone W b s s' k t h p = table_written W b s s' k t (subst (λ y. Stays W b s s' k (arms_of (expressions_of t)) y) (sym h) p)

-- ---- the node

pub table_rewritten : {s s1 s2 : Progress} {x x1 x2 : Stmt} → x1 ≡ x → s1 ≡ s → TableStep IsSmall true s1 s2 x1 x2 → (r : Engine) (w : Bool) → StmtStep step.Rewritten r w s s2 x x2
table_rewritten {s1 = s1} {s2 = s2} {x = x} {x2 = x2} h k q r w = subst (λ y. StmtStep step.Rewritten r w y s2 x x2) k (subst (λ y. StmtStep step.Rewritten r w s1 s2 y x2) h (q.0 r w, q.1))

pub switch_kept : {s s1 s2 : Progress} {x x1 x2 : Stmt} → is_switch x ≡ true → choice_at x ≡ Several → x1 ≡ x → s1 ≡ s → TableStep IsSmall false s1 s2 x1 x2 → (r : Engine) (w : Bool) → StmtStep step.Kept r w s s2 x x2
switch_kept {s = s} {x = x} i c h k q r w = record { same = q.0 ∙ h; state = q.1.0 ∙ k; reduced = undecided r x i c; settled = λ w g. no_rule (here r s) x i c (subst IsSmall h q.1.1) }
