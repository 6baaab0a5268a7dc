-- The operands of `&&`, `||` and `??`, by their operator: which of them go, and what is left to reduce.
use Rattle.std.specs.Prelude.{◌≡◌, ◌<◌, ◌≤◌, ◌+◌, ℕ, Bool, true, false, not, List, [], ◌∷◌, ◌++◌, length, take, drop, Option, Some, None}
use Rattle.ast_types.specs.declared.expr.Expr as declared_expr
use Rattle.rhai_base.specs.Value.{Value}
use Rattle.theory_meaning.specs.Constants.{constant_value}
use Rattle.theory_meaning.specs.Engine.{Engine}
use Rattle.theory_meaning.specs.Faults.{has_operands}
use Rattle.theory_meaning.specs.Queries.{is_pure_expr}
use Rattle.theory_meaning.specs.Shape.{is_unit}
use Rattle.theory_meaning.specs.Tree.{Expr, BoolConstant, UnitConstant, And, Or, Coalesce, Exprs, no_exprs, expr}
use Rattle.theory_meaning.specs.Walk.{OfExpr}
use Rattle.ast_types.specs.Reading.{expr_of, exprs_of}
use Rattle.theory_rewriting.specs.Answering.{is_always, is_some_value, follows_deciding, follows_some}
use Rattle.theory_rewriting.specs.Operands.{OperandsTo, CoalesceTo}
use Rattle.theory_rewriting.specs.Residue.{IsReducedNode}
use Rattle.theory_rewriting.specs.Steps.{Place, ExprRewrite}
use Rattle.opt_base.specs.Standing.{may_stand}
use Rattle.opt_base.specs.Passes.{InTurn, NodePass}
use Rattle.opt_exprs.specs.declared.operands.nodes.Outcome.{Outcome}
use Rattle.opt_exprs.specs.declared.operands.nodes.Outcome.TheVariants as outcome
use Rattle.opt_exprs.specs.declared.operands.operation.Operation.{Operation}
use Rattle.opt_exprs.specs.declared.operands.operation.Operation.TheVariants as operation

abbrev pub Declared : Type 0
Declared = List declared_expr.Expr

-- ---- operators

abbrev pub node_of : Operation → Exprs → Expr
node_of operation.And es = And es
node_of operation.Or es = Or es
node_of operation.Coalesce es = Coalesce es

abbrev pub has_operation : Expr → Bool
has_operation (And es) = true
has_operation (Or es) = true
has_operation (Coalesce es) = true
has_operation _ = false

-- one change of operands
abbrev pub Change : Operation → Exprs → Exprs → Type 0
Change operation.And es es' = OperandsTo true es es'
Change operation.Or es es' = OperandsTo false es es'
Change operation.Coalesce es es' = CoalesceTo es es'

-- after which one is left
abbrev pub OneGoes : Operation → Exprs → Exprs → Type 0
OneGoes o es es' = Change o es es' × (has_operands es' ≡ true)

abbrev pub NoneGoes : Operation → Exprs → Type 0
NoneGoes o es = (es' : Exprs) → OneGoes o es es' → ⊥

-- one follows a constant that decides
abbrev pub follows : Operation → Exprs → Bool
follows operation.And es = follows_deciding false es
follows operation.Or es = follows_deciding true es
follows operation.Coalesce es = follows_some es

-- ---- an operand

abbrev pub is_unit_value : Option Value → Bool
is_unit_value None = false
is_unit_value (Some v) = is_unit v

-- a constant after which the operator goes on, and one that decides
abbrev pub goes_on : Operation → Expr → Bool
goes_on operation.And e = is_always true e
goes_on operation.Or e = is_always false e
goes_on operation.Coalesce e = is_unit_value (constant_value e)

abbrev pub decides : Operation → Expr → Bool
decides operation.And e = is_always false e
decides operation.Or e = is_always true e
decides operation.Coalesce e = is_some_value (constant_value e)

-- what goes directly before one that decides
abbrev pub goes_before : Operation → Expr → Bool
goes_before operation.And e = is_pure_expr e
goes_before operation.Or e = is_pure_expr e
goes_before operation.Coalesce e = false

-- ---- passes

-- those from one place up to another go before a constant that decides
abbrev pub GoBefore : Operation → Declared → ℕ → ℕ → Type 0
GoBefore o xs from kept = (x : declared_expr.Expr) → decides o (expr_of x) ≡ true → InTurn (OneGoes o) (exprs_of (take kept xs ++ x ∷ [])) (exprs_of (take from xs ++ x ∷ []))

abbrev pub NoneIs : (Expr → Bool) → Declared → Type 0
NoneIs p [] = Unit {0}
NoneIs p (x ∷ xs) = (p (expr_of x) ≡ false) × NoneIs p xs

-- operands that are kept up to a place end at one that decides; where they are as many, all stay if those before it do
pub record Ends (o : Operation) (at kept : ℕ) (xs ys : Declared) : Type 0 where
  pub to : InTurn (OneGoes o) (exprs_of (take kept xs ++ drop at xs)) (exprs_of ys)
  pub settled : NoneIs (decides o) (take kept xs) → follows o (exprs_of ys) ≡ false
  pub short : length ys ≤ kept + 1
  pub same : length ys ≡ length xs → ys ≡ xs
  pub stay : length ys ≡ length xs → NoneIs (decides o) (take kept xs) → (1 < length xs → NoneIs (goes_on o) (take kept xs)) → NoneGoes o (exprs_of xs)

-- some operands went, or none, as none can
pub record OperandsPass (o : Operation) (xs ys : Declared) : Type 0 where
  pub to : InTurn (OneGoes o) (exprs_of xs) (exprs_of ys)
  pub settled : follows o (exprs_of ys) ≡ false
  pub same : length ys ≡ length xs → ys ≡ xs
  pub stay : length ys ≡ length xs → NoneGoes o (exprs_of xs)

abbrev pub NoOperandGoes : Expr → Type 0
NoOperandGoes (And es) = NoneGoes operation.And es
NoOperandGoes (Or es) = NoneGoes operation.Or es
NoOperandGoes (Coalesce es) = NoneGoes operation.Coalesce es
NoOperandGoes _ = Unit {0}

-- of a node: whether any went; if none did, nothing is left to reduce there, and none can
abbrev pub NodeChange : Bool → Expr → Expr → Type 0
NodeChange true e e' = NodePass e e'
NodeChange false e e' = (e' ≡ e) × ((r : Engine) → IsReducedNode r (OfExpr e)) × NoOperandGoes e

-- ---- one operand, and none

abbrev pub none_of : Operation → Expr
none_of operation.And = BoolConstant true
none_of operation.Or = BoolConstant false
none_of operation.Coalesce = UnitConstant

-- neither one that may stand there, nor none
abbrev pub is_settled : Place → Operation → Exprs → Bool
is_settled p o no_exprs = not (may_stand p (none_of o))
is_settled p o (expr e no_exprs) = not (may_stand p e)
is_settled p o (expr e (expr f es)) = true

abbrev pub is_settled_node : Place → Expr → Bool
is_settled_node p (And es) = is_settled p operation.And es
is_settled_node p (Or es) = is_settled p operation.Or es
is_settled_node p (Coalesce es) = is_settled p operation.Coalesce es
is_settled_node p _ = true

-- what an operator of few operands is to become, or that they stay
abbrev pub Becomes : Option declared_expr.Expr → Place → Operation → Declared → Declared → Type 0
Becomes None p o xs ys = (ys ≡ xs) × (is_settled p o (exprs_of xs) ≡ true)
Becomes (Some x) p o xs ys = ExprRewrite p (node_of o (exprs_of xs)) (expr_of x)

-- of a node: no rule fires, some operands went, or it is to become another
abbrev pub ComesOf : Outcome → Place → Expr → Expr → Type 0
ComesOf outcome.Kept p e e' = NodeChange false e e' × (is_settled_node p e ≡ true)
ComesOf outcome.Fewer p e e' = NodePass e e'
ComesOf (outcome.Becomes x) p e e' = ExprRewrite p e (expr_of x)
