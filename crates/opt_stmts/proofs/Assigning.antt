-- Assignments that are made by an operator.
use Rattle.std.proofs.Common.{◌≡◌, ◌<◌, ◌≤◌, ◌↔◌, IsTrue, Bool, true, false, not, ◌&&◌, map, List, [], ◌∷◌, length, get_or, Option, Some, None, refl, sym, ap, ◌∙◌, subst, arith}
use Rattle.ast_types.specs.declared.expr.Expr as declared_expr
use Rattle.base_tokens.specs.declared.ident.Ident.{Ident}
use Rattle.base_tokens.specs.declared.op_assignment.OpAssignment.{OpAssignment}
use Rattle.base_tokens.specs.Assignments.{is_no_equals}
use Rattle.base_tokens.specs.declared.token.Token.{Token}
use Rattle.base_tokens.specs.declared.token.Token.TheVariants as token
use Rattle.rhai_base.specs.Builtin.{operator_of}
use Rattle.rhai_base.specs.Value.{Text}
use Rattle.rhai_base.specs.Operators.{Operator}
use Rattle.theory_meaning.specs.Engine.{Engine, overrides_any, assigning}
use Rattle.theory_meaning.specs.Tree.{CallToken, NoToken, OfOperator, OfOther, Callee, Expr, Variable, FnCall, Exprs, no_exprs, expr, Assignment}
use Rattle.ast_types.specs.Reading.{expr_of, exprs_of, mark_by}
use Rattle.theory_rewriting.specs.Rules as rule
use Rattle.theory_rewriting.specs.SelfAssign.{has_op_assignment, leaves_names}
use Rattle.theory_rewriting.specs.Steps.{Progress}
use Rattle.theory_rewriting.proofs.rules.Equality.{text_is}
use Rattle.opt_base.proofs.Places.{not-true}
use Rattle.opt_stmts.specs.Assigning.{Operates, operates, Takes}
use Rattle.opt_stmts.specs.Firing.{Fires}
use Rattle.opt_stmts.specs.SettledAssignments.{is_name, may_assign, are_name_and_value, operates_on, assigns_itself}
use Rattle.opt_stmts.proofs.FiredAssignments.{fires}
use Rattle.opt_stmts.proofs.AssignmentParts.{keeps_value}
use Rattle.opt_stmts.proofs.Settled.{assigns_so}

-- ---- tests

both_true : (a b : Bool) → a && b ≡ true → (a ≡ true) × (b ≡ true)
both_true true b h = (refl, h)
both_true false b h = absurd cc

named : (x : Text) (a : Expr) → is_name x a ≡ true → a ≡ Variable [] x
named x (Variable [] y) h = ap (Variable []) (sym (text_is x y h))
named x (Variable (n ∷ ns) y) h = absurd cc
named x _ h = absurd cc

-- ---- operands

pub few : (x : Text) (l : List declared_expr.Expr) → length l < 2 → are_name_and_value x (exprs_of l) ≡ false
few x [] h = refl
few x (a ∷ []) h = refl
few x (a ∷ b ∷ l) h = absurd (omega arith)

pub many : (x : Text) (l : List declared_expr.Expr) → 3 ≤ length l → are_name_and_value x (exprs_of l) ≡ false
many x [] h = absurd (omega arith)
many x (a ∷ []) h = absurd (omega arith)
many x (a ∷ b ∷ []) h = absurd (omega arith)
many x (a ∷ b ∷ c ∷ l) h = refl

-- ---- `x = x op e`

operates_by : (r : Engine) (f : Callee) (x : Text) (e : Expr) (t : CallToken) (o : Option Operator) → f.token ≡ t → mark_by o ≡ t → may_assign r t ≡ true → leaves_names e ≡ true → Operates r (Variable [] x) (FnCall f (expr (Variable [] x) (expr e no_exprs))) o e
operates_by r f x e NoToken o i j h l = absurd cc
operates_by r f x e OfOther o i j h l = absurd cc
operates_by r f x e (OfOperator op) None i j h l = absurd cc
operates_by r f x e (OfOperator op) (Some p) i j h l =
    let b = both_true (has_op_assignment op) (not (overrides_any r.overrides (assigning op))) h in
    let same : p ≡ op = cc in
    subst (λ z. Operates r (Variable [] x) (FnCall f (expr (Variable [] x) (expr e no_exprs))) (Some z) e) (sym same) (operates i b.0 l (not-true (overrides_any r.overrides (assigning op)) b.1))

pub operates_of : (r : Engine) (f : Callee) (x : Text) (a e : Expr) {es : Exprs} (o : Option Operator) → es ≡ expr a (expr e no_exprs) → mark_by o ≡ f.token → may_assign r f.token ≡ true → is_name x a ≡ true → leaves_names e ≡ true → Operates r (Variable [] x) (FnCall f es) o e
operates_of r f x a e o i j h n l =
    subst (λ z. Operates r (Variable [] x) (FnCall f z) o e) (sym (i ∙ ap (λ z. expr z (expr e no_exprs)) (named x a n))) (operates_by r f x e f.token o refl j h l)

pub self_assigned : {r : Engine} {w : Bool} {s s' : Progress} (l e e' : Expr) (o : Option Operator) → Operates r l e o e' → s'.is_dirty ≡ true → s'.known ≡ s.known → Fires r w s s' (Assignment None l e) (Assignment o l e')
self_assigned _ _ _ _ (operates {op} {f} {x} {e} t a l o) d k = fires d k (rule.self_assign t a l o) (keeps_value op f x e)

pub assigns : (r : Engine) (l e e' : Expr) (o : Option Operator) → Operates r l e o e' → assigns_itself r l e ≡ true
assigns r _ _ _ _ (operates {op} {f} {x} {e} t a l o) = assigns_so r op f x e t a l o

-- the second of two operands
pub operates_at : (r : Engine) (f : Callee) (x : Text) (l : List declared_expr.Expr) (v : declared_expr.Expr) (o : Option Operator) → are_name_and_value x (exprs_of l) ≡ true → v ≡ get_or l 1 v → mark_by o ≡ f.token → may_assign r f.token ≡ true → Operates r (Variable [] x) (FnCall f (exprs_of l)) o (expr_of v)
operates_at r f x [] v o h i j k = absurd cc
operates_at r f x (a ∷ []) v o h i j k = absurd cc
operates_at r f x (a ∷ e ∷ []) v o h i j k =
    let b = both_true (is_name x (expr_of a)) (leaves_names (expr_of e)) h in
    operates_of r f x (expr_of a) (expr_of v) o (ap (λ (z : declared_expr.Expr). expr (expr_of a) (expr (expr_of z) no_exprs)) (sym i)) j k b.0 (ap (λ (z : declared_expr.Expr). leaves_names (expr_of z)) i ∙ b.1)
operates_at r f x (a ∷ e ∷ c ∷ l) v o h i j k = absurd cc

pub two-operands : (x : Text) (l : List declared_expr.Expr) → are_name_and_value x (exprs_of l) ≡ true → length l ≤ 1 → ⊥
two-operands x l h i = let z : false ≡ true = sym (few x l (omega (arith, i))) ∙ h in cc

-- trees that are spelled so
pub takes_as : (o : Option (OpAssignment × declared_expr.Expr)) (r : Engine) (l : Expr) {e e1 e' e1' : Expr} → e ≡ e1 → e' ≡ e1' → Takes o r l e1 e1' → Takes o r l e e'
takes_as o r l {e1 = e1} {e' = e'} i j t = subst (λ a. Takes o r l a e') (sym i) (subst (λ a. Takes o r l e1 a) (sym j) t)

pub takes_at : (o : Option (OpAssignment × declared_expr.Expr)) (r : Engine) {l l1 : Expr} (e e' : Expr) → l ≡ l1 → Takes o r l1 e e' → Takes o r l e e'
takes_at o r e e' i t = subst (λ a. Takes o r a e e') (sym i) t

-- ---- calls that may not assign

and_false : (a b : Bool) → b ≡ false → a && b ≡ false
and_false true b h = h
and_false false b h = refl

pub no_operator : (r : Engine) (f : Callee) (x : Text) (es : Exprs) → may_assign r f.token ≡ false → operates_on r x (FnCall f es) ≡ false
no_operator r f x es h = and_false (are_name_and_value x es) (may_assign r f.token) h

pub no_operands : (r : Engine) (f : Callee) (x : Text) (es : Exprs) → are_name_and_value x es ≡ false → operates_on r x (FnCall f es) ≡ false
no_operands r f x es h = ap (λ b. b && may_assign r f.token) h

-- ---- names that are in a namespace

pub no_target_there : (r : Engine) (ns : List Ident) (x : Text) (e : Expr) → (IsTrue false ↔ (ns ≡ [])) → assigns_itself r (Variable (map (λ i. i.name) ns) x) e ≡ false
no_target_there r [] x e h = let k = h.1 refl in absurd cc
no_target_there r (n ∷ ns) x e h = refl

-- ---- straight assignments

pub straight : (t : Token) → false ≡ is_no_equals t → operator_of t ≡ None
straight token.Equals h = refl
straight _ h = absurd cc
