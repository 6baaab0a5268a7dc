-- What is left to reduce in operands and in chains.
use Rattle.std.specs.Prelude.{◌≡◌, Bool, true, false, ◌||◌, not, Option, Some, None}
use Rattle.rhai_base.specs.Value.{Text, Value, MapV}
use Rattle.theory_meaning.specs.Constants.{constant_value, constant_bool}
use Rattle.theory_meaning.specs.Elements.{entry}
use Rattle.theory_meaning.specs.Shape.{is_unit}
use Rattle.theory_meaning.specs.Tree.{Expr, Property, Dot, Index, Exprs, no_exprs, expr, Assignment}
use Rattle.theory_meaning.specs.Walk.{Node, OfExpr, OfStmt, Walk, parts_of_expr, parts_of_stmt, arms_at, listed}
use Rattle.theory_rewriting.specs.Indexing.{indexed}

-- ---- conditions

abbrev pub is_that : Bool → Option Bool → Bool
is_that b None = false
is_that true (Some c) = c
is_that false (Some c) = not c

-- a constant, with this bool as its value
abbrev pub is_always : Bool → Expr → Bool
is_always b e = is_that b (constant_bool e)

-- ---- operands

-- one follows a constant that decides: false in an `&&`, true in an `||`
abbrev pub follows_deciding : Bool → Exprs → Bool
follows_deciding b no_exprs = false
follows_deciding b (expr e no_exprs) = false
follows_deciding b (expr e (expr f es)) = is_always b e || follows_deciding b (expr f es)

abbrev pub is_some_value : Option Value → Bool
is_some_value None = false
is_some_value (Some v) = not (is_unit v)

-- one follows a constant that isn't unit in a `??`
abbrev pub follows_some : Exprs → Bool
follows_some no_exprs = false
follows_some (expr e no_exprs) = false
follows_some (expr e (expr f es)) = is_some_value (constant_value e) || follows_some (expr f es)

-- ---- chains

abbrev pub property_of : Option Value → Text → Option Value
property_of (Some (MapV fs)) x = Some (entry fs x)
property_of _ x = None

abbrev pub index_of : Option Value → Option Value → Option Value
index_of (Some v) (Some i) = indexed v i
index_of _ _ = None

abbrev pub without_question : Bool → Option Value → Option Value
without_question true o = None
without_question false o = o

-- what a chain of one step without `?` over a constant answers without the host
abbrev pub chain_answer : Expr → Option Value
chain_answer (Dot f e (Property p)) = without_question f.negated (property_of (constant_value e) p.name)
chain_answer (Index f e i) = without_question f.negated (index_of (constant_value e) (constant_value i))
chain_answer _ = None

-- an expression that is no chain which answers a value other than unit
abbrev pub AnswersNothing : Node → Type 0
AnswersNothing (OfExpr e) = is_some_value (chain_answer e) ≡ false
AnswersNothing (OfStmt s) = Unit {0}

-- P holds of the first nodes alone
abbrev pub of_first : (Node → Type 0) → Walk (Type 0)
of_first P = record { none = Unit {0}; both = λ p q. p × q; node = λ n p. P n; within = λ s p. p; arms = λ t ps. arms_at (Unit {0}) (λ p q. p × q) ps (listed t) }

-- The expressions in a node: no left side is one, and of a chain that goes on its rest isn't.
abbrev pub InExpressions : (Node → Type 0) → Node → Type 0
InExpressions P (OfExpr (Dot f l r)) = P (OfExpr l) × (f.breaks ≡ true → P (OfExpr r))
InExpressions P (OfExpr (Index f l r)) = P (OfExpr l) × (f.breaks ≡ true → P (OfExpr r))
InExpressions P (OfStmt (Assignment op l e)) = P (OfExpr e)
InExpressions P (OfExpr e) = parts_of_expr (of_first P) e
InExpressions P (OfStmt s) = parts_of_stmt (of_first P) s
