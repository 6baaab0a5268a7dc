-- One change of operands, and what it keeps.
use Rattle.std.proofs.Common.{◌≡◌, ◌<◌, Bool, true, false, [], ◌∷◌, ◌++◌, length, Option, Some, None, refl, arith}
use Rattle.rhai_base.specs.Value.{Value, UnitV}
use Rattle.theory_meaning.specs.Constants.{constant_value, constant_bool}
use Rattle.theory_meaning.specs.Engine.{Engine}
use Rattle.theory_meaning.specs.Faults.{has_operands}
use Rattle.theory_meaning.specs.Shape.{is_unit}
use Rattle.theory_meaning.specs.Tree.{Expr, Exprs, no_exprs, expr}
use Rattle.theory_meaning.specs.Walk.{OfExpr}
use Rattle.ast_types.specs.Reading.{exprs_of}
use Rattle.theory_rewriting.specs.Answering.{is_that, is_some_value}
use Rattle.theory_rewriting.specs.Context.{Context}
use Rattle.theory_rewriting.specs.Operands.{OperandsTo, in_other_operands, passing_goes, after_deciding_go, pure_before_deciding_goes, CoalesceTo, in_other_options, unit_goes, after_some_go}
use Rattle.theory_rewriting.specs.Residue.{IsReducedNode}
use Rattle.theory_rewriting.specs.Rules as rule
use Rattle.theory_rewriting.specs.Rules.{ExprRule}
use Rattle.theory_rewriting.specs.Steps.{Place, Anywhere, AsBase, AsGuard, MayBecome, KeepsExprParts}
use Rattle.opt_base.proofs.Places.{not-true}
use Rattle.opt_base.proofs.Listed.{Listed, answers, reduced, clear}
use Rattle.opt_base.proofs.Passing.{Changes}
use Rattle.opt_exprs.specs.declared.operands.operation.Operation.{Operation}
use Rattle.opt_exprs.specs.declared.operands.operation.Operation.TheVariants as operation
use Rattle.opt_exprs.specs.Operands.{Declared, node_of, Change, OneGoes, follows, is_unit_value, goes_on, decides, goes_before}

-- ---- constants

always : (b : Bool) (o : Option Bool) → is_that b o ≡ true → o ≡ Some b
always true None h = absurd cc
always false None h = absurd cc
always true (Some true) h = refl
always true (Some false) h = absurd cc
always false (Some true) h = absurd cc
always false (Some false) h = refl

unit-is : (o : Option Value) → is_unit_value o ≡ true → o ≡ Some UnitV
unit-is None h = absurd cc
unit-is (Some UnitV) h = refl
unit-is (Some _) h = absurd cc

some-is : (o : Option Value) → is_some_value o ≡ true → (v : Value) × ((o ≡ Some v) × (is_unit v ≡ false))
some-is None h = absurd cc
some-is (Some v) h = (v, (refl, not-true (is_unit v) h))

-- ---- one change

pub passing : (o : Operation) (e : Expr) (es : Exprs) → goes_on o e ≡ true → Change o (expr e es) es
passing operation.And e es h = passing_goes (always true (constant_bool e) h)
passing operation.Or e es h = passing_goes (always false (constant_bool e) h)
passing operation.Coalesce e es h = unit_goes (unit-is (constant_value e) h)

pub ending : (o : Operation) (e f : Expr) (es : Exprs) → decides o e ≡ true → Change o (expr e (expr f es)) (expr e no_exprs)
ending operation.And e f es h = after_deciding_go (always false (constant_bool e) h)
ending operation.Or e f es h = after_deciding_go (always true (constant_bool e) h)
ending operation.Coalesce e f es h = let z = some-is (constant_value e) h in after_some_go z.0 z.1.0 z.1.1

pub going_before : (o : Operation) (e f : Expr) → goes_before o e ≡ true → decides o f ≡ true → Change o (expr e (expr f no_exprs)) (expr f no_exprs)
going_before operation.And e f h i = pure_before_deciding_goes h (always false (constant_bool f) i)
going_before operation.Or e f h i = pure_before_deciding_goes h (always true (constant_bool f) i)
going_before operation.Coalesce e f h i = absurd cc

-- behind operands that stay
in_front : (o : Operation) (front xs ys : Declared) → Change o (exprs_of xs) (exprs_of ys) → Change o (exprs_of (front ++ xs)) (exprs_of (front ++ ys))
in_front o [] xs ys h = h
in_front operation.And (z ∷ front) xs ys h = in_other_operands (in_front operation.And front xs ys h)
in_front operation.Or (z ∷ front) xs ys h = in_other_operands (in_front operation.Or front xs ys h)
in_front operation.Coalesce (z ∷ front) xs ys h = in_other_options (in_front operation.Coalesce front xs ys h)

some-left : (xs : Declared) → 0 < length xs → has_operands (exprs_of xs) ≡ true
some-left [] h = absurd (omega arith)
some-left (x ∷ xs) h = refl

pub one_goes : (o : Operation) (front xs ys : Declared) → Change o (exprs_of xs) (exprs_of ys) → 0 < length (front ++ ys) → OneGoes o (exprs_of (front ++ xs)) (exprs_of (front ++ ys))
one_goes o front xs ys h l = (in_front o front xs ys h, some-left (front ++ ys) l)

-- ---- what is claimed of each operand holds of those that stay

keeps_operands : {b : Bool} {es es' : Exprs} {E : Expr → Type 0} {F : Exprs → Type 0} → Listed E F → OperandsTo b es es' → F es → F es'
keeps_operands l (in_other_operands p) h = let z = l.split _ _ h in l.join _ _ z.0 (keeps_operands l p z.1)
keeps_operands l (passing_goes q) h = (l.split _ _ h).1
keeps_operands l (after_deciding_go q) h = l.join _ _ (l.split _ _ h).0 l.none
keeps_operands l (pure_before_deciding_goes q i) h = (l.split _ _ h).1

keeps_options : {es es' : Exprs} {E : Expr → Type 0} {F : Exprs → Type 0} → Listed E F → CoalesceTo es es' → F es → F es'
keeps_options l (in_other_options p) h = let z = l.split _ _ h in l.join _ _ z.0 (keeps_options l p z.1)
keeps_options l (unit_goes q) h = (l.split _ _ h).1
keeps_options l (after_some_go v q i) h = l.join _ _ (l.split _ _ h).0 l.none

keeps_change : (o : Operation) (es es' : Exprs) → Change o es es' → KeepsExprParts (node_of o es) (node_of o es')
keeps_change operation.And es es' q = record { parts = λ r h. (h.0, (keeps_operands answers q h.1.0, keeps_operands (reduced r) q h.1.1)); clear = λ ks h. keeps_operands (clear ks) q h }
keeps_change operation.Or es es' q = record { parts = λ r h. (h.0, (keeps_operands answers q h.1.0, keeps_operands (reduced r) q h.1.1)); clear = λ ks h. keeps_operands (clear ks) q h }
keeps_change operation.Coalesce es es' q = record { parts = λ r h. (h.0, (keeps_options answers q h.1.0, keeps_options (reduced r) q h.1.1)); clear = λ ks h. keeps_options (clear ks) q h }

-- ---- at the node

change_rule : (o : Operation) (k : Context) (es es' : Exprs) → OneGoes o es es' → ExprRule k (node_of o es) (node_of o es')
change_rule operation.And k es es' q = rule.and_changes q.0 q.1
change_rule operation.Or k es es' q = rule.or_changes q.0 q.1
change_rule operation.Coalesce k es es' q = rule.coalesce_changes q.0 q.1

change_stays : (o : Operation) (p : Place) (es es' : Exprs) → MayBecome p (node_of o es) (node_of o es')
change_stays o Anywhere es es' = tt
change_stays operation.And AsBase es es' = refl
change_stays operation.Or AsBase es es' = refl
change_stays operation.Coalesce AsBase es es' = refl
change_stays operation.And AsGuard es es' = refl
change_stays operation.Or AsGuard es es' = refl
change_stays operation.Coalesce AsGuard es es' = refl

pub changes : (o : Operation) → Changes (OneGoes o) (node_of o)
changes o = record { rule = change_rule o; stays = change_stays o; keeps = λ es es' q. keeps_change o es es' q.0 }

pub nothing_follows : (o : Operation) (es : Exprs) (r : Engine) → follows o es ≡ false → IsReducedNode r (OfExpr (node_of o es))
nothing_follows operation.And es r h = h
nothing_follows operation.Or es r h = h
nothing_follows operation.Coalesce es r h = h
