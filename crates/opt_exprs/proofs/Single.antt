-- One operand, and none.
use Rattle.std.proofs.Common.{◌≡◌, ◌≤◌, ◌<◌, Bool, true, false, not, List, [], ◌∷◌, length, get_or, set, Option, Some, None, MatchOption, is_some, refl, sym, ap, ◌∙◌, subst, arith}
use Rattle.ast_types.specs.declared.expr.Expr as declared_expr
use Rattle.theory_meaning.specs.Desugar.{root_of}
use Rattle.theory_meaning.specs.Engine.{Engine}
use Rattle.theory_meaning.specs.Queries.{is_unit}
use Rattle.theory_meaning.specs.Tree.{Expr, BoolConstant, And, Or, Coalesce, no_exprs, expr}
use Rattle.ast_types.specs.Reading.{expr_of, exprs_of}
use Rattle.theory_rewriting.specs.Clear.{known_value}
use Rattle.theory_rewriting.specs.Context.{Context}
use Rattle.theory_rewriting.specs.Known.{Known}
use Rattle.theory_rewriting.specs.Rules as rule
use Rattle.theory_rewriting.specs.Rules.{ExprRule}
use Rattle.theory_rewriting.specs.Steps.{Progress, Place, Anywhere, AsBase, AsGuard, MayBecome, AnswersNone, ExprRewrite, KeepsExprParts}
use Rattle.theory_rewriting.proofs.Keeping.{keeps_unit, keeps_and, keeps_or, keeps_coalesce}
use Rattle.opt_base.specs.Standing.{may_stand}
use Rattle.opt_base.proofs.Places.{stands}
use Rattle.opt_base.proofs.Stepping.{expr_rewrite_as, expr_stays}
use Rattle.opt_base.specs.Passes.{PassStep}
use Rattle.opt_exprs.specs.declared.operands.nodes.Outcome.TheVariants as outcome
use Rattle.opt_exprs.specs.declared.operands.operation.Operation.{Operation}
use Rattle.opt_exprs.specs.declared.operands.operation.Operation.TheVariants as operation
use Rattle.opt_exprs.specs.Operands.{Declared, Becomes, ComesOf, node_of, has_operation, NoneGoes, NoOperandGoes, none_of, is_settled, is_settled_node}

-- ---- the rules

alone : (p : Place) (o : Operation) (e : Expr) → may_stand p e ≡ true → ExprRewrite p (node_of o (expr e no_exprs)) e
alone p operation.And e h = record { rule = λ k. rule.and_of_one; stays = stands p _ _ refl refl h; keeps = keeps_and e }
alone p operation.Or e h = record { rule = λ k. rule.or_of_one; stays = stands p _ _ refl refl h; keeps = keeps_or e }
alone p operation.Coalesce e h = record { rule = λ k. rule.coalesce_of_one; stays = stands p _ _ refl refl h; keeps = keeps_coalesce e }

keeps_bool : (e : Expr) (b : Bool) → KeepsExprParts e (BoolConstant b)
keeps_bool e b = record { parts = λ r h. (tt, (tt, tt)); clear = λ ks h. tt }

pub bool_stands : (p : Place) (b : Bool) → true ≡ may_stand p (BoolConstant b)
bool_stands Anywhere b = refl
bool_stands AsBase b = refl
bool_stands AsGuard b = refl

pub none : (p : Place) (o : Operation) → may_stand p (none_of o) ≡ true → ExprRewrite p (node_of o no_exprs) (none_of o)
none p operation.And h = record { rule = λ k. rule.and_of_none; stays = stands p _ _ refl refl h; keeps = keeps_bool _ true }
none p operation.Or h = record { rule = λ k. rule.or_of_none; stays = stands p _ _ refl refl h; keeps = keeps_bool _ false }
none p operation.Coalesce h = record { rule = λ k. rule.coalesce_of_none; stays = stands p _ _ refl refl h; keeps = keeps_unit _ }

-- ---- so few operands

abbrev pub Taken : Place → declared_expr.Expr → declared_expr.Expr → Option declared_expr.Expr → Type 0
Taken p x y m = MatchOption m ((may_stand p (expr_of x) ≡ false) × (y ≡ x)) (λ e. (may_stand p (expr_of x) ≡ true) × (e ≡ x))

pub one_becomes : (p : Place) (o : Operation) (xs ys : Declared) (x y : declared_expr.Expr) (m : Option declared_expr.Expr) → length xs ≤ 1 → 0 < length xs → x ≡ get_or xs 0 x → ys ≡ set xs 0 y → Taken p x y m → Becomes m p o xs ys
one_becomes p o [] ys x y m le lt h k t = absurd (omega arith)
one_becomes p o (z ∷ []) ys x y None le lt h k t = (k ∙ ap (λ w. w ∷ []) (t.1 ∙ h), ap not (ap (λ w. may_stand p (expr_of w)) (sym h) ∙ t.0))
one_becomes p o (z ∷ []) ys x y (Some e) le lt h k t =
    let is : e ≡ z = t.1 ∙ h in
    expr_rewrite_as refl (ap expr_of is) (alone p o (expr_of z) (ap (λ w. may_stand p (expr_of w)) (sym h) ∙ t.0))
one_becomes p o (z ∷ w ∷ xs) ys x y m le lt h k t = absurd (omega arith)

pub none_becomes : (p : Place) (o : Operation) (xs : Declared) (m : Option declared_expr.Expr) → length xs ≤ 0 → Becomes m p o [] [] → Becomes m p o xs xs
none_becomes p o [] m h q = q
none_becomes p o (x ∷ xs) m h q = absurd (omega arith)

pub many_stay : (p : Place) (o : Operation) (xs : Declared) → 1 < length xs → is_settled p o (exprs_of xs) ≡ true
many_stay p o [] h = absurd (omega arith)
many_stay p o (x ∷ []) h = absurd (omega arith)
many_stay p o (x ∷ y ∷ xs) h = refl

-- ---- at the node

no_name : (e : Expr) (ks : List Known) → has_operation e ≡ true → known_value ks e ≡ None
no_name (And es) ks h = refl
no_name (Or es) ks h = refl
no_name (Coalesce es) ks h = refl
no_name _ ks h = absurd cc

no_answer : (e : Expr) → has_operation e ≡ true → AnswersNone e
no_answer (And es) h = refl
no_answer (Or es) h = refl
no_answer (Coalesce es) h = refl
no_answer _ h = absurd cc

-- what may be made of a node that is neither a place nor a literal unit may stand there
may_stand_there : (p : Place) (e e' : Expr) → root_of e ≡ None → is_unit e ≡ false → MayBecome p e e' → may_stand p e' ≡ true
may_stand_there Anywhere e e' r u m = refl
may_stand_there AsBase e e' r u m = ap (λ o. not (is_some o)) (m ∙ r)
may_stand_there AsGuard e e' r u m = ap not (m ∙ u)

-- so few operands that stay may not
few_stay : (p : Place) (e e' : Expr) → root_of e ≡ None → is_unit e ≡ false → not (may_stand p e') ≡ true → MayBecome p e e' → ⊥
few_stay p e e' r u h m = let stands = may_stand_there p e e' r u m in absurd cc

-- no rule fires at such a node
abbrev Stays : Place → Expr → Type 0
Stays p (And es) = NoneGoes operation.And es × (is_settled p operation.And es ≡ true)
Stays p (Or es) = NoneGoes operation.Or es × (is_settled p operation.Or es ≡ true)
Stays p (Coalesce es) = NoneGoes operation.Coalesce es × (is_settled p operation.Coalesce es ≡ true)
Stays p _ = ⊥

stays_by : (p : Place) (e : Expr) → has_operation e ≡ true → NoOperandGoes e → is_settled_node p e ≡ true → Stays p e
stays_by p (And es) h n s = (n, s)
stays_by p (Or es) h n s = (n, s)
stays_by p (Coalesce es) h n s = (n, s)
stays_by p _ h n s = absurd cc

no_rule : (p : Place) {k : Context} {e e' : Expr} → ExprRule k e e' → Stays p e → MayBecome p e e' → ⊥
no_rule p (rule.and_changes q h) s m = s.0 _ (q, h)
no_rule p rule.and_of_one s m = few_stay p _ _ refl refl s.1 m
no_rule p rule.and_of_none s m = few_stay p _ _ refl refl s.1 m
no_rule p (rule.or_changes q h) s m = s.0 _ (q, h)
no_rule p rule.or_of_one s m = few_stay p _ _ refl refl s.1 m
no_rule p rule.or_of_none s m = few_stay p _ _ refl refl s.1 m
no_rule p (rule.coalesce_changes q h) s m = s.0 _ (q, h)
no_rule p rule.coalesce_of_one s m = few_stay p _ _ refl refl s.1 m
no_rule p rule.coalesce_of_none s m = few_stay p _ _ refl refl s.1 m
no_rule p _ s m = s

pub operands_stay : {r : Engine} {p : Place} {s : Progress} {e e' : Expr} → has_operation e ≡ true → ComesOf outcome.Kept p e e' → PassStep false r p s s e e'
operands_stay {r = r} {p = p} {s = s} {e = e} h q =
    subst (λ a. PassStep false r p s s e a) (sym q.0.0)
    (expr_stays {r = r} {p = p} (q.0.1 r) (no_answer e h) (λ _. no_name e s.known h) (λ _ e' z m. no_rule p z (stays_by p e h q.0.2 q.1) m))
