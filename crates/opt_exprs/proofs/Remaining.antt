-- Operands of which none goes: none is a constant after which the operator goes on, and one that decides stands last, behind what is not pure.
use Rattle.std.proofs.Common.{◌≡◌, ◌<◌, ◌-◌, suc, Bool, true, false, not, [], ◌∷◌, ◌++◌, length, get_or, Option, Some, None, refl, sym, ap, ◌∙◌, arith}
use Rattle.rhai_base.specs.Value.{Value}
use Rattle.theory_meaning.specs.Constants.{constant_value, constant_bool}
use Rattle.theory_meaning.specs.Faults.{has_operands}
use Rattle.theory_meaning.specs.Shape.{is_unit}
use Rattle.theory_meaning.specs.Tree.{Expr, Exprs, no_exprs, expr}
use Rattle.ast_types.specs.declared.expr.Expr as declared_expr
use Rattle.ast_types.specs.Reading.{expr_of, exprs_of}
use Rattle.theory_rewriting.specs.Answering.{is_that, is_some_value}
use Rattle.theory_rewriting.specs.Operands.{OperandsTo, in_other_operands, passing_goes, after_deciding_go, pure_before_deciding_goes, CoalesceTo, in_other_options, unit_goes, after_some_go}
use Rattle.opt_base.proofs.Places.{not-true}
use Rattle.opt_exprs.specs.declared.operands.operation.Operation.{Operation}
use Rattle.opt_exprs.specs.declared.operands.operation.Operation.TheVariants as operation
use Rattle.opt_exprs.specs.Operands.{Declared, Change, NoneGoes, is_unit_value, goes_on, decides, goes_before, NoneIs}

-- ---- constants

that-is : (b : Bool) (o : Option Bool) → o ≡ Some b → is_that b o ≡ true
that-is true (Some c) h = cc
that-is false (Some c) h = ap not (let same : c ≡ false = cc in same)
that-is _ None h = absurd cc

true-or-false : (o : Option Bool) → is_that true o ≡ true → is_that false o ≡ false
true-or-false None h = refl
true-or-false (Some c) h = ap not h

false-or-true : (o : Option Bool) → is_that false o ≡ true → is_that true o ≡ false
false-or-true None h = refl
false-or-true (Some c) h = not-true c h

some-or-unit : (o : Option Value) → is_some_value o ≡ true → is_unit_value o ≡ false
some-or-unit None h = refl
some-or-unit (Some v) h = not-true (is_unit v) h

decides-or-goes_on : (o : Operation) (e : Expr) → decides o e ≡ true → goes_on o e ≡ false
decides-or-goes_on operation.And e h = false-or-true (constant_bool e) h
decides-or-goes_on operation.Or e h = true-or-false (constant_bool e) h
decides-or-goes_on operation.Coalesce e h = some-or-unit (constant_value e) h

-- ---- where one goes

pub data Goes (o : Operation) : Exprs → Type 0 where
  behind : {e : Expr} {es : Exprs} → Goes o es → Goes o (expr e es)
  passes : {e : Expr} {es : Exprs} → goes_on o e ≡ true → Goes o (expr e es)
  ends : {e f : Expr} {es : Exprs} → decides o e ≡ true → Goes o (expr e (expr f es))
  before : {e f : Expr} {es : Exprs} → goes_before o e ≡ true → decides o f ≡ true → Goes o (expr e (expr f es))

and_goes : {es es' : Exprs} → OperandsTo true es es' → Goes operation.And es
and_goes (in_other_operands p) = behind (and_goes p)
and_goes (passing_goes h) = passes (that-is true _ h)
and_goes (after_deciding_go h) = ends (that-is false _ h)
and_goes (pure_before_deciding_goes h i) = before h (that-is false _ i)

or_goes : {es es' : Exprs} → OperandsTo false es es' → Goes operation.Or es
or_goes (in_other_operands p) = behind (or_goes p)
or_goes (passing_goes h) = passes (that-is false _ h)
or_goes (after_deciding_go h) = ends (that-is true _ h)
or_goes (pure_before_deciding_goes h i) = before h (that-is true _ i)

option_goes : {es es' : Exprs} → CoalesceTo es es' → Goes operation.Coalesce es
option_goes (in_other_options p) = behind (option_goes p)
option_goes (unit_goes h) = passes (ap is_unit_value h)
option_goes (after_some_go v h u) = ends (ap is_some_value h ∙ ap not u)

change_goes : (o : Operation) (es es' : Exprs) → Change o es es' → Goes o es
change_goes operation.And es es' q = and_goes q
change_goes operation.Or es es' q = or_goes q
change_goes operation.Coalesce es es' q = option_goes q

-- one alone stays
operand_alone : {b : Bool} {e : Expr} {es' : Exprs} → OperandsTo b (expr e no_exprs) es' → es' ≡ no_exprs
operand_alone (in_other_operands p) = elim p [ ]
operand_alone (passing_goes h) = refl

option_alone : {e : Expr} {es' : Exprs} → CoalesceTo (expr e no_exprs) es' → es' ≡ no_exprs
option_alone (in_other_options p) = elim p [ ]
option_alone (unit_goes h) = refl

alone : (o : Operation) (e : Expr) (es' : Exprs) → Change o (expr e no_exprs) es' → es' ≡ no_exprs
alone operation.And e es' q = operand_alone q
alone operation.Or e es' q = operand_alone q
alone operation.Coalesce e es' q = option_alone q

none_at_all : (o : Operation) → Goes o no_exprs → ⊥
none_at_all o q = elim q [ ]

pub none_go : (o : Operation) (xs : Declared) → (1 < length xs → Goes o (exprs_of xs) → ⊥) → NoneGoes o (exprs_of xs)
none_go o [] h = λ es' q. none_at_all o (change_goes o no_exprs es' q.0)
none_go o (x ∷ []) h = λ es' q. let left : false ≡ true = sym (ap has_operands (alone o (expr_of x) es' q.0)) ∙ q.1 in absurd cc
none_go o (x ∷ y ∷ xs) h = λ es' q. h (omega arith) (change_goes o _ es' q.0)

-- ---- none goes where none goes on and none decides, or the last one does, behind what doesn't go before it

unlike : {b : Bool} → b ≡ true → b ≡ false → ⊥
unlike h i = absurd cc

pub undecided_stay : (o : Operation) (xs : Declared) → NoneIs (decides o) xs → NoneIs (goes_on o) xs → Goes o (exprs_of xs) → ⊥
undecided_stay o [] d g q = none_at_all o q
undecided_stay o (x ∷ []) d g (behind p) = none_at_all o p
undecided_stay o (x ∷ []) d g (passes h) = unlike h g.0
undecided_stay o (x ∷ y ∷ xs) d g (behind p) = undecided_stay o (y ∷ xs) d.1 g.1 p
undecided_stay o (x ∷ y ∷ xs) d g (passes h) = unlike h g.0
undecided_stay o (x ∷ y ∷ xs) d g (ends h) = unlike h d.0
undecided_stay o (x ∷ y ∷ xs) d g (before h i) = unlike i d.1.0

pub decided_stay : (o : Operation) (front : Declared) (x : declared_expr.Expr) → decides o (expr_of x) ≡ true → NoneIs (decides o) front → NoneIs (goes_on o) front → (0 < length front → goes_before o (expr_of (get_or front (length front - 1) x)) ≡ false) → Goes o (exprs_of (front ++ x ∷ [])) → ⊥
decided_stay o [] x e d g b (behind p) = none_at_all o p
decided_stay o [] x e d g b (passes h) = unlike h (decides-or-goes_on o (expr_of x) e)
decided_stay o (y ∷ []) x e d g b (behind p) = decided_stay o [] x e tt tt (λ lt. absurd (omega arith)) p
decided_stay o (y ∷ []) x e d g b (passes h) = unlike h g.0
decided_stay o (y ∷ []) x e d g b (ends h) = unlike h d.0
decided_stay o (y ∷ []) x e d g b (before h i) = unlike h (b (omega arith))
decided_stay o (y ∷ z ∷ front) x e d g b (behind p) =
    let before = λ (lt : 0 < length (z ∷ front)). ap (λ m. goes_before o (expr_of (get_or (y ∷ z ∷ front) m x))) (let e : suc (length (z ∷ front) - 1) ≡ length (y ∷ z ∷ front) - 1 = omega arith in e) ∙ b (omega arith) in
    decided_stay o (z ∷ front) x e d.1 g.1 before p
decided_stay o (y ∷ z ∷ front) x e d g b (passes h) = unlike h g.0
decided_stay o (y ∷ z ∷ front) x e d g b (ends h) = unlike h d.0
decided_stay o (y ∷ z ∷ front) x e d g b (before h i) = unlike i d.1.0
