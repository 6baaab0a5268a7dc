-- Assignments and shared names at which no rule fires, their parts being reduced.
use Rattle.std.specs.Prelude.{Bool, true, false, ◌&&◌, ◌||◌, not, List, [], ◌∷◌, None, is_some}
use Rattle.rhai_base.specs.Value.{Text, same_text}
use Rattle.theory_meaning.specs.Engine.{Engine, overrides_any, assigning}
use Rattle.theory_meaning.specs.Tree.{CallToken, OfOperator, Expr, Variable, FnCall, Exprs, no_exprs, expr, Stmt, Assignment, Share}
use Rattle.theory_rewriting.specs.Known.{Known, look}
use Rattle.theory_rewriting.specs.SelfAssign.{has_op_assignment, leaves_names}

-- ---- shared names

abbrev pub is_share : Stmt → Bool
is_share (Share xs) = true
is_share _ = false

abbrev pub shares_nothing : Stmt → Bool
shares_nothing (Share []) = true
shares_nothing _ = false

-- one of these names is known as a constant
abbrev pub knows_some : List Known → List Text → Bool
knows_some ks [] = false
knows_some ks (x ∷ xs) = is_some (look ks x) || knows_some ks xs

abbrev pub is_settled_share : List Known → Stmt → Bool
is_settled_share ks (Share xs) = not (knows_some ks xs)
is_settled_share ks _ = true

-- ---- assignments

abbrev pub is_assignment : Stmt → Bool
is_assignment (Assignment op l e) = true
is_assignment _ = false

abbrev pub is_name : Text → Expr → Bool
is_name x (Variable [] y) = same_text x y
is_name x _ = false

-- an operator has an `op=`
abbrev pub has_form : CallToken → Bool
has_form (OfOperator op) = has_op_assignment op
has_form _ = false

-- which no host overrides
abbrev pub is_open : Engine → CallToken → Bool
is_open r (OfOperator op) = not (overrides_any r.overrides (assigning op))
is_open r _ = true

abbrev pub may_assign : Engine → CallToken → Bool
may_assign r t = has_form t && is_open r t

-- this name, and an expression that leaves names as they are
abbrev pub are_name_and_value : Text → Exprs → Bool
are_name_and_value x (expr a (expr e no_exprs)) = is_name x a && leaves_names e
are_name_and_value x _ = false

-- an operation on a name that may assign to it
abbrev pub operates_on : Engine → Text → Expr → Bool
operates_on r x (FnCall f es) = are_name_and_value x es && may_assign r f.token
operates_on r x _ = false

abbrev pub assigns_itself : Engine → Expr → Expr → Bool
assigns_itself r (Variable [] x) e = operates_on r x e
assigns_itself r _ e = false

abbrev pub is_settled_assignment : Engine → Stmt → Bool
is_settled_assignment r (Assignment None l e) = not (assigns_itself r l e)
is_settled_assignment r _ = true
