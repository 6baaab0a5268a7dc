-- Plain scripts: those whose every node has a meaning beside its form.
use Rattle.std.specs.Prelude.{Bool, true, false, not, ◌&&◌}
use Rattle.theory_meaning.specs.Shape.{is_barred}
use Rattle.theory_meaning.specs.Tree.{Expr, MethodCall, FnCall, Stmt, FnCallStmt, Share, Script}
use Rattle.theory_meaning.specs.Walk.{Node, OfExpr, OfStmt, Walk, over_script, arms_at, listed}

-- no call of `eval`, `is_def_var` or `is_def_fn`, and no shared name
abbrev pub is_plain_expr : Expr → Bool
is_plain_expr (MethodCall c es) = not (is_barred c)
is_plain_expr (FnCall c es) = not (is_barred c)
is_plain_expr _ = true

abbrev pub is_plain_stmt : Stmt → Bool
is_plain_stmt (FnCallStmt c es) = not (is_barred c)
is_plain_stmt (Share xs) = false
is_plain_stmt _ = true

abbrev pub is_plain_node : Node → Bool
is_plain_node (OfExpr e) = is_plain_expr e
is_plain_node (OfStmt s) = is_plain_stmt s

-- P is true of every node
abbrev pub all_true : (Node → Bool) → Walk Bool
all_true P = record { none = true; both = λ p q. p && q; node = λ n p. P n && p; within = λ s p. p; arms = λ t ps. arms_at true (λ p q. p && q) ps (listed t) }

abbrev pub is_plain : Script → Bool
is_plain p = over_script (all_true is_plain_node) p
