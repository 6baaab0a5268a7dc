-- When `x = x op e` is `x op= e`.
use Rattle.std.specs.Prelude.{Bool, true, false}
use Rattle.rhai_base.specs.Operators.{Operator, Plus, Minus, Multiply, Divide, Modulo, Power, ShiftLeft, ShiftRight, BitAnd, BitOr, BitXor}
use Rattle.theory_meaning.specs.Plain.{all_true}
use Rattle.theory_meaning.specs.OperatorCalls.{is_operator}
use Rattle.theory_meaning.specs.Tree.{Expr, MethodCall, FnCall, Assignment, FnCallStmt}
use Rattle.theory_meaning.specs.Walk.{Node, OfExpr, OfStmt, over_expr}

-- no assignment, no method call, and no call but an operator's
abbrev pub writes_nothing : Node → Bool
writes_nothing (OfExpr (MethodCall c es)) = false
writes_nothing (OfExpr (FnCall c es)) = is_operator c.token
writes_nothing (OfStmt (Assignment op l e)) = false
writes_nothing (OfStmt (FnCallStmt c es)) = is_operator c.token
writes_nothing n = true

-- at any depth
abbrev pub leaves_names : Expr → Bool
leaves_names e = over_expr (all_true writes_nothing) e

-- whether the language has its `op=`
abbrev pub has_op_assignment : Operator → Bool
has_op_assignment Plus = true
has_op_assignment Minus = true
has_op_assignment Multiply = true
has_op_assignment Divide = true
has_op_assignment Modulo = true
has_op_assignment Power = true
has_op_assignment ShiftLeft = true
has_op_assignment ShiftRight = true
has_op_assignment BitAnd = true
has_op_assignment BitOr = true
has_op_assignment BitXor = true
has_op_assignment _ = false
