-- Arrays, braces and names at which no rule fires, their parts being reduced.
use Rattle.std.specs.Prelude.{◌≡◌, Bool, true, false, not, List, Option, Some, None, if◌then◌else◌}
use Rattle.rhai_base.specs.Value.{Value, is_unit}
use Rattle.ast_types.specs.declared.expr.Expr as declared_expr
use Rattle.ast_types.specs.Reading.{expr_of}
use Rattle.theory_meaning.specs.Constants.{array_value, constant_values}
use Rattle.theory_meaning.specs.Tree.{Expr, ArrayOf, UnitConstant, Variable, BlockExpr, Stmt, ExprStmt, FnCallStmt, Stmts, no_stmts, stmt}
use Rattle.theory_meaning.specs.Queries.{is_eval}
use Rattle.theory_rewriting.specs.Known.{Known}
use Rattle.opt_base.specs.Standing.{may_stand}
use Rattle.theory_rewriting.specs.Steps.{Place, Anywhere, AsBase, AsGuard, ExprRewrite}
pub use Rattle.theory_rewriting.specs.Clear.{known_value}

abbrev pub is_array : Expr → Bool
is_array (ArrayOf es) = true
is_array _ = false

abbrev pub is_braces : Expr → Bool
is_braces (BlockExpr ss) = true
is_braces _ = false

abbrev pub is_variable : Expr → Bool
is_variable (Variable ns x) = true
is_variable _ = false

abbrev pub is_call_statement : Stmt → Bool
is_call_statement (FnCallStmt c es) = true
is_call_statement _ = false

-- the value of an array of constants
abbrev pub value_of_array : Expr → Option Value
value_of_array (ArrayOf es) = array_value (constant_values es)
value_of_array _ = None

abbrev pub is_settled_in_braces : Place → Stmt → Bool
is_settled_in_braces p (ExprStmt e) = not (may_stand p e)
is_settled_in_braces p (FnCallStmt c es) = is_eval c
is_settled_in_braces p _ = true

-- braces that hold neither nothing, nor one call, nor one expression that may stand there
abbrev pub is_settled_braces : Place → Stmts → Bool
is_settled_braces p no_stmts = not (may_stand p UnitConstant)
is_settled_braces p (stmt s no_stmts) = is_settled_in_braces p s
is_settled_braces p (stmt s (stmt t ss)) = true

abbrev pub is_settled : Place → Expr → Bool
is_settled p (BlockExpr ss) = is_settled_braces p ss
is_settled p _ = true

-- what it is to become, or that it stays
abbrev pub Becomes : Option declared_expr.Expr → Place → Expr → Expr → Type 0
Becomes None p e e' = (e' ≡ e) × (is_settled p e ≡ true)
Becomes (Some x) p e e' = ExprRewrite p e (expr_of x)

abbrev pub unless_unit : Option Value → Option Value
unless_unit None = None
unless_unit (Some v) = if is_unit v then None else Some v

-- the value that a name may become where it stands
abbrev pub known_there : Place → List Known → Expr → Option Value
known_there Anywhere ks e = known_value ks e
known_there AsBase ks e = None
known_there AsGuard ks e = unless_unit (known_value ks e)
