-- Purity of an arm of a `switch`, where the table has it.
use Rattle.std.specs.Prelude.{Bool, true, false, ◌&&◌, Option, Some, None}
use Rattle.ast_types.specs.declared.expr.BinaryExpr.{BinaryExpr}
use Rattle.theory_meaning.specs.Queries.{is_pure_expr}
use Rattle.ast_types.specs.Reading.{expr_of}

-- its condition and its answer; no arm asks nothing
abbrev pub is_pure_if_any : Option BinaryExpr → Bool
is_pure_if_any None = true
is_pure_if_any (Some b) = is_pure_expr (expr_of b.lhs) && is_pure_expr (expr_of b.rhs)

-- it is there, and its answer is pure
abbrev pub has_pure_answer : Option BinaryExpr → Bool
has_pure_answer None = false
has_pure_answer (Some b) = is_pure_expr (expr_of b.rhs)
