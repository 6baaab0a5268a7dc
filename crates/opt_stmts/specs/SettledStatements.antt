-- Statements at which no rule fires, their parts being reduced.
use Rattle.std.specs.Prelude.{Bool, true, false, not, ◌&&◌, cond, Option, None}
use Rattle.theory_meaning.specs.Constants.{constant_bool}
use Rattle.theory_meaning.specs.Queries.{is_block_dependent}
use Rattle.opt_stmts.specs.SettledChoices.{is_empty}
use Rattle.opt_base.specs.declared.step.NodeStep.{NodeStep}
use Rattle.opt_base.specs.declared.step.NodeStep.TheVariants as step
use Rattle.opt_base.specs.NodeSteps.{step_by}
use Rattle.theory_meaning.specs.Tree.{Expr, BlockExpr, FnCall, Stmt, While, Block, TryCatch, ExprStmt, Stmts, no_stmts, stmt}

-- ---- blocks

abbrev pub is_block : Stmt → Bool
is_block (Block ss) = true
is_block _ = false

-- neither nothing nor one statement that may stand outside
abbrev pub are_settled : Stmts → Bool
are_settled no_stmts = false
are_settled (stmt s no_stmts) = is_block_dependent s
are_settled (stmt s (stmt t ss)) = true

abbrev pub is_settled_block : Stmt → Bool
is_settled_block (Block ss) = are_settled ss
is_settled_block _ = true

-- ---- expression statements

abbrev pub is_expression : Stmt → Bool
is_expression (ExprStmt e) = true
is_expression _ = false

-- an expression that may be a statement as it is
abbrev pub stays : Expr → Bool
stays (BlockExpr ss) = false
stays (FnCall c es) = false
stays _ = true

abbrev pub is_settled_expression : Stmt → Bool
is_settled_expression (ExprStmt e) = stays e
is_settled_expression _ = true

-- over braces that hold something
abbrev pub holds_some : Expr → Bool
holds_some (BlockExpr ss) = not (is_empty ss)
holds_some _ = false

abbrev pub is_over_braces : Stmt → Bool
is_over_braces (ExprStmt e) = holds_some e
is_over_braces _ = false

-- what came of one: a block whose value nothing wants is to be gone over, as its list was one whose value is wanted
abbrev pub expression_step : Bool → Stmt → NodeStep
expression_step w x = cond (is_settled_expression x) step.Kept (step_by (is_over_braces x && not w))

-- ---- loops

abbrev pub is_while : Stmt → Bool
is_while (While e b) = true
is_while _ = false

-- what the guard of a `while` decides
abbrev pub decided_loop : Stmt → Option Bool
decided_loop (While e b) = constant_bool e
decided_loop _ = None

-- ---- `try`

abbrev pub is_try : Stmt → Bool
is_try (TryCatch x a b) = true
is_try _ = false

-- in normal form a body that is pure inside is empty
abbrev pub is_settled_try : Stmt → Bool
is_settled_try (TryCatch x a b) = not (is_empty a)
is_settled_try _ = true
