-- Statements that leave with a value.
use Rattle.std.proofs.Common.{◌≡◌, Some}
use Rattle.base_tokens.specs.declared.flags.ASTFlags.{ASTFlags}
use Rattle.base_tokens.specs.declared.position.Position.{Position}
use Rattle.ast_types.specs.declared.expr.Expr as declared_expr
use Rattle.ast_types.specs.declared.stmt.Stmt.TheVariants as stmt_kind
use Rattle.theory_meaning.specs.Tree.{Return, an_expr}
use Rattle.ast_types.specs.Reading.{breaks, expr_of, is_exported, stmt_of, stmt_of-Return}

pub returned : (e : declared_expr.Expr) (k : ASTFlags) (p : Position) → stmt_of (stmt_kind.Return (Some e) k p) ≡ Return (breaks k) (is_exported k) (an_expr (expr_of e))
returned e k p = stmt_of-Return (Some e) k p
