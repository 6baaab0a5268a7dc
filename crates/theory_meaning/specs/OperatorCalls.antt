-- Scripts that call operators alone: constants, arrays, braces, `&&`, `if`, and of calls those of operators.
use Rattle.std.specs.Prelude.{◌≡◌, Bool, true, false}
use Rattle.theory_meaning.specs.Tree as tree
use Rattle.theory_meaning.specs.Tree.{CallToken, OfOperator}
use Rattle.theory_meaning.specs.Walk.{Node, OfExpr, OfStmt, every, over_stmts}

abbrev pub is_operator : CallToken → Bool
is_operator (OfOperator op) = true
is_operator _ = false

-- a node of such a script
abbrev pub CallsOperator : Node → Type 0
CallsOperator (OfExpr (tree.DynamicConstant v)) = Unit {0}
CallsOperator (OfExpr (tree.BoolConstant b)) = Unit {0}
CallsOperator (OfExpr (tree.IntegerConstant n)) = Unit {0}
CallsOperator (OfExpr (tree.FloatConstant x)) = Unit {0}
CallsOperator (OfExpr (tree.CharConstant c)) = Unit {0}
CallsOperator (OfExpr (tree.StringConstant t)) = Unit {0}
CallsOperator (OfExpr tree.UnitConstant) = Unit {0}
CallsOperator (OfExpr (tree.ArrayOf es)) = Unit {0}
CallsOperator (OfExpr (tree.BlockExpr ss)) = Unit {0}
CallsOperator (OfExpr (tree.FnCall c es)) = is_operator c.token ≡ true
CallsOperator (OfExpr (tree.And es)) = Unit {0}
CallsOperator (OfStmt tree.Noop) = Unit {0}
CallsOperator (OfStmt (tree.If c a b)) = Unit {0}
CallsOperator (OfStmt (tree.Block ss)) = Unit {0}
CallsOperator (OfStmt (tree.ExprStmt e)) = Unit {0}
CallsOperator (OfStmt (tree.FnCallStmt c es)) = is_operator c.token ≡ true
CallsOperator _ = ⊥

-- all nodes of its statements are such nodes, so that no function is called
abbrev pub CallsOperatorsAlone : tree.Script → Type 0
CallsOperatorsAlone p = over_stmts (every CallsOperator) p.statements
