-- Arrays, and braces by what they hold.
use Rattle.std.proofs.Common.{◌≡◌, ◌<◌, ◌≤◌, Bool, true, false, not, ◌&&◌, List, [], ◌∷◌, length, get_or, set, map, ◌↔◌, IsTrue, Option, Some, None, refl, sym, ap, ◌∙◌, subst, arith}
use Rattle.std.specs.Prelude.{is_some}
use Rattle.ast_types.specs.declared.stmt.Stmt as declared_stmt
use Rattle.ast_types.specs.declared.expr.Expr as declared_expr
use Rattle.ast_types.specs.Reading.{stmt_of, stmts_of}
use Rattle.base_tokens.specs.declared.ident.Ident.{Ident}
use Rattle.theory_rewriting.specs.Known.{Known, look}
use Rattle.rhai_base.specs.Value.{Text, Value, ArrayV, values, is_unit}
use Rattle.theory_meaning.specs.Constants.{array_value, constant_values, constant_for, constant_value, is_constant, is_literal_unit}
use Rattle.theory_meaning.specs.Engine.{Engine}
use Rattle.theory_meaning.specs.Queries.{is_eval, is_unit as is_unit_expr}
use Rattle.theory_meaning.specs.Tree.{Callee, Expr, ArrayOf, UnitConstant, Variable, ThisPtr, BlockExpr, FnCall, Exprs, ExprStmt, FnCallStmt, Stmts, no_stmts, stmt}
use Rattle.theory_rewriting.specs.Context.{Context}
use Rattle.theory_rewriting.specs.Residue.{ExprParts, holds_constant}
use Rattle.theory_rewriting.specs.Rules as rule
use Rattle.theory_rewriting.specs.Rules.{ExprRule}
use Rattle.theory_rewriting.specs.Steps.{Progress, Place, Anywhere, AsBase, AsGuard, MayBecome, ExprRewrite}
use Rattle.theory_rewriting.proofs.Keeping.{keeps_constant, keeps_unit, keeps_braced, keeps_braced_call, may_be_constant}
use Rattle.opt_base.specs.Folded.{FoldsConstant}
use Rattle.opt_base.specs.NodeSteps.{Puts, ExprStep}
use Rattle.opt_base.specs.Standing.{is_root, may_stand}
use Rattle.opt_base.proofs.Places.{not-false, not-true, stands}
use Rattle.opt_base.proofs.Stepping.{expr_stays}
use Rattle.opt_rules.specs.Settled.{known_value, is_array, is_braces, value_of_array, is_settled_braces, is_settled, Becomes}
use Rattle.opt_rules.proofs.Kept.{call_stands}

-- ---- arrays

array_constant : (e : Expr) → is_array e ≡ true → constant_value e ≡ value_of_array e
array_constant (ArrayOf es) h = refl
array_constant _ h = absurd cc

none_of : (o : Option Value) → is_some o ≡ false → None ≡ o
none_of None h = refl
none_of (Some v) h = absurd cc

no_array : (o : Option (List Value)) → None ≡ array_value o → o ≡ None
no_array None h = refl
no_array (Some vs) h = absurd cc

array_not_unit : (o : Option (List Value)) (v : Value) → Some v ≡ array_value o → is_unit v ≡ false
array_not_unit None v h = absurd cc
array_not_unit (Some vs) v h = let same : ArrayV (values vs) ≡ v = cc in ap is_unit (sym same)

array_folds : {k : Context} {es : Exprs} {v : Value} (o : Option (List Value)) → constant_values es ≡ o → Some v ≡ array_value o → ExprRule k (ArrayOf es) (constant_for v)
array_folds None i h = absurd cc
array_folds {k = k} {es = es} {v = v} (Some vs) i h =
    let same : ArrayV (values vs) ≡ v = cc in
    subst (λ x. ExprRule k (ArrayOf es) (constant_for x)) same (rule.array_of_constants i)

-- the value of an array of constants took its place
array_put : {s s' : Progress} {e' : Expr} {v : Value} (e : Expr) → is_array e ≡ true → Some v ≡ value_of_array e → Puts s s' e' v → (r : Engine) (p : Place) → ExprStep true r p s s' e e'
array_put {s = s} {s' = s'} {v = v} (ArrayOf es) i h q r p =
    subst (λ a. ExprStep true r p s s' (ArrayOf es) a) (sym q.constant)
    (record { rule = array_folds (constant_values es) refl h; stays = may_be_constant p (ArrayOf es) v refl refl (array_not_unit (constant_values es) v h); fired = q.fired; known = q.known }, keeps_constant (ArrayOf es) v)
array_put _ i h q r p = absurd cc

abbrev Unfolded : Expr → Type 0
Unfolded (ArrayOf es) = constant_values es ≡ None
Unfolded _ = ⊥

array_rules : {k : Context} {e e' : Expr} → ExprRule k e e' → Unfolded e → ⊥
array_rules (rule.array_of_constants {vs = vs} i) h = let z : None ≡ Some vs = sym h ∙ i in cc
array_rules _ h = h

array_stays : {s : Progress} (e : Expr) → is_array e ≡ true → ((r : Engine) → ExprParts r e → is_constant e ≡ false) → (r : Engine) (p : Place) → ExprStep false r p s s e e
array_stays (ArrayOf es) i h r p = record { same = refl; state = refl; answers = refl; reduced = none; unknown = λ q. refl; settled = λ g n e' q m. array_rules q (none g) } where
  none : ExprParts r (ArrayOf es) → constant_values es ≡ None
  none g = no_array (constant_values es) (none_of (constant_value (ArrayOf es)) (h r g))
array_stays _ i h r p = absurd cc

pub array_step : (b : Bool) (s s' : Progress) (e e' : Expr) → is_array e ≡ true → FoldsConstant b s s' e e' → (r : Engine) (p : Place) → ExprStep b r p s s' e e'
array_step true s s' e e' i f r p = array_put e i (sym f.1 ∙ array_constant e i) f.2 r p
array_step false s s' e e' i f r p =
    subst (λ a. ExprStep false r p s s' e a) (sym f.2)
    (subst (λ t. ExprStep false r p s t e e) (sym f.1) (array_stays e i f.0 r p))

-- ---- braces

pub empty_becomes : (p : Place) → may_stand p UnitConstant ≡ true → ExprRewrite p (BlockExpr no_stmts) UnitConstant
empty_becomes p h = record { rule = λ k. rule.braces_empty; stays = stands p _ _ refl refl h; keeps = keeps_unit _ }

pub expression_becomes : (p : Place) (e : Expr) → may_stand p e ≡ true → ExprRewrite p (BlockExpr (stmt (ExprStmt e) no_stmts)) e
expression_becomes p e h = record { rule = λ k. rule.braces_of_expression; stays = stands p _ _ refl refl h; keeps = keeps_braced e }

pub call_becomes : (p : Place) (c : Callee) (es : Exprs) → is_eval c ≡ false → ExprRewrite p (BlockExpr (stmt (FnCallStmt c es) no_stmts)) (FnCall c es)
call_becomes p c es h = record { rule = λ k. rule.braces_of_call h; stays = stands p _ _ refl refl (call_stands p c es); keeps = keeps_braced_call c es }

-- by how many statements they hold
pub many_stay : (p : Place) (l : List declared_stmt.Stmt) → 1 < length l → is_settled_braces p (stmts_of l) ≡ true
many_stay p [] h = absurd (omega arith)
many_stay p (x ∷ []) h = absurd (omega arith)
many_stay p (x ∷ y ∷ l) h = refl

pub one_becomes : (p : Place) (xs ys : List declared_stmt.Stmt) (x y : declared_stmt.Stmt) (m : Option declared_expr.Expr) → length xs ≤ 1 → 0 < length xs → x ≡ get_or xs 0 x → ys ≡ set xs 0 y → Becomes m p (BlockExpr (stmt (stmt_of x) no_stmts)) (BlockExpr (stmt (stmt_of y) no_stmts)) → Becomes m p (BlockExpr (stmts_of xs)) (BlockExpr (stmts_of ys))
one_becomes p [] ys x y m le lt h k q = absurd (omega arith)
one_becomes p (z ∷ []) ys x y m le lt h k q =
    subst (λ (l : List declared_stmt.Stmt). Becomes m p (BlockExpr (stmt (stmt_of z) no_stmts)) (BlockExpr (stmts_of l))) (sym k)
    (subst (λ w. Becomes m p (BlockExpr (stmt (stmt_of w) no_stmts)) (BlockExpr (stmt (stmt_of y) no_stmts))) h q)
one_becomes p (z ∷ w ∷ xs) ys x y m le lt h k q = absurd (omega arith)

pub none_becomes : (p : Place) (xs : List declared_stmt.Stmt) (m : Option declared_expr.Expr) → length xs ≤ 0 → Becomes m p (BlockExpr no_stmts) (BlockExpr no_stmts) → Becomes m p (BlockExpr (stmts_of xs)) (BlockExpr (stmts_of xs))
none_becomes p [] m h q = q
none_becomes p (x ∷ xs) m h q = absurd (omega arith)

-- braces that stay hold no constant alone
root_no_constant : (e : Expr) → is_root e ≡ true → is_constant e && not (is_literal_unit e) ≡ false
root_no_constant (Variable ns x) h = refl
root_no_constant ThisPtr h = refl
root_no_constant _ h = absurd cc

unit_no_constant : (e : Expr) → is_unit_expr e ≡ true → is_constant e && not (is_literal_unit e) ≡ false
unit_no_constant UnitConstant h = refl
unit_no_constant _ h = absurd cc

barred_no_constant : (p : Place) (e : Expr) → not (may_stand p e) ≡ true → is_constant e && not (is_literal_unit e) ≡ false
barred_no_constant Anywhere e h = absurd cc
barred_no_constant AsBase e h = root_no_constant e (not-false (is_root e) (not-true _ h))
barred_no_constant AsGuard e h = unit_no_constant e (not-false (is_unit_expr e) (not-true _ h))

braces-settled : (p : Place) (ss : Stmts) → is_settled_braces p ss ≡ true → holds_constant ss ≡ false
braces-settled p no_stmts h = refl
braces-settled p (stmt (ExprStmt e) no_stmts) h = barred_no_constant p e h
braces-settled p (stmt _ no_stmts) h = refl
braces-settled p (stmt (ExprStmt e) (stmt t ss)) h = refl
braces-settled p (stmt _ (stmt t ss)) h = refl

-- what braces may become may stand where they are
may_become : (p : Place) (ss : Stmts) (e : Expr) → MayBecome p (BlockExpr ss) e → may_stand p e ≡ true
may_become Anywhere ss e m = refl
may_become AsBase ss e m = ap (λ o. not (is_some o)) m
may_become AsGuard ss e m = ap not m

abbrev Stays : Place → Expr → Type 0
Stays p (BlockExpr ss) = is_settled_braces p ss ≡ true
Stays p _ = ⊥

braces_rules : (p : Place) {k : Context} {e e' : Expr} → ExprRule k e e' → Stays p e → MayBecome p e e' → ⊥
braces_rules p rule.braces_empty h m = let z : false ≡ true = ap not (sym (may_become p no_stmts UnitConstant m)) ∙ h in cc
braces_rules p (rule.braces_of_expression {e}) h m = let z : false ≡ true = ap not (sym (may_become p (stmt (ExprStmt e) no_stmts) e m)) ∙ h in cc
braces_rules p (rule.braces_of_call i) h m = let z : false ≡ true = sym i ∙ h in cc
braces_rules p _ h m = h

kept : {p : Place} {s : Progress} (e : Expr) → is_braces e ≡ true → is_settled p e ≡ true → (r : Engine) → ExprStep false r p s s e e
kept {p = p} (BlockExpr ss) i h r = expr_stays (braces-settled p ss h) refl (λ q. refl) (λ n e' q m. braces_rules p q h m)
kept _ i h r = absurd cc

pub braces_stay : {p : Place} {s : Progress} {e e' : Expr} → is_braces e ≡ true → Becomes None p e e' → (r : Engine) → ExprStep false r p s s e e'
braces_stay {p = p} {s = s} {e = e} i q r = subst (λ a. ExprStep false r p s s e a) (sym q.0) (kept e i q.1 r)
