-- Statements whose value, if they give one, is unit.
use Rattle.std.specs.Prelude.{Bool, true, false}
use Rattle.theory_meaning.specs.Plain.{all_true}
use Rattle.theory_meaning.specs.Tree.{an_expr, Stmt, Noop, While, Do, For, Var, Assignment, TryCatch, BreakLoop, Stmts}
use Rattle.theory_meaning.specs.Walk.{Node, OfStmt, over_stmts}

-- no `break` with an expression
abbrev pub carries_nothing : Node → Bool
carries_nothing (OfStmt (BreakLoop true exported (an_expr e))) = false
carries_nothing n = true

-- at any depth
abbrev pub breaks_carry_nothing : Stmts → Bool
breaks_carry_nothing ss = over_stmts (all_true carries_nothing) ss

abbrev pub is_surely_unit : Stmt → Bool
is_surely_unit Noop = true
is_surely_unit (Var constant exported x e) = true
is_surely_unit (Assignment op l e) = true
is_surely_unit (TryCatch x a b) = true
is_surely_unit (While e b) = breaks_carry_nothing b
is_surely_unit (Do negated exported e b) = breaks_carry_nothing b
is_surely_unit (For x i e b) = breaks_carry_nothing b
is_surely_unit _ = false
