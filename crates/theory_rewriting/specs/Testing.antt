-- The lists in a node, and lists in which something is left to reduce.
use Rattle.std.specs.Prelude.{◌≡◌, Bool, true, false, ◌&&◌, ◌||◌, not, []}
use Rattle.rhai_base.specs.Value.{Text, same_text}
use Rattle.theory_meaning.specs.Constants.{is_constant}
use Rattle.theory_meaning.specs.Queries.{is_control_flow_break}
use Rattle.theory_meaning.specs.Tree.{Variable, BlockExpr, Stmt, Noop, If, While, Do, For, Var, Block, TryCatch, ExprStmt, Stmts, no_stmts, stmt}
use Rattle.theory_meaning.specs.Walk.{Node, OfExpr, OfStmt}
use Rattle.theory_rewriting.specs.Evals.{keeps_names}

-- an `if` has this name alone as its condition, before the name is declared again and before `eval` is called
abbrev pub tests_name : Text → Stmts → Bool
tests_name x no_stmts = false
tests_name x (stmt (Var constant exported y e) ss) = keeps_names (Var constant exported y e) && (not (same_text y x) && tests_name x ss)
tests_name x (stmt (If (Variable [] y) a b) ss) = same_text x y || (keeps_names (If (Variable [] y) a b) && tests_name x ss)
tests_name x (stmt s ss) = keeps_names s && tests_name x ss

-- so it does with a `const` of a constant expression
abbrev pub tests_constant : Stmts → Bool
tests_constant no_stmts = false
tests_constant (stmt (Var true exported x e) ss) = keeps_names (Var true exported x e) && ((is_constant e && tests_name x ss) || tests_constant ss)
tests_constant (stmt s ss) = keeps_names s && tests_constant ss

-- a statement follows one that leaves the list
abbrev pub goes_on_after_leaving : Stmts → Bool
goes_on_after_leaving no_stmts = false
goes_on_after_leaving (stmt s no_stmts) = false
goes_on_after_leaving (stmt s (stmt t ss)) = is_control_flow_break s || goes_on_after_leaving (stmt t ss)

abbrev pub is_idle : Stmt → Bool
is_idle Noop = true
is_idle (ExprStmt e) = is_constant e
is_idle _ = false

-- a `Noop` or an expression statement over a constant stands before the last statement
abbrev pub idles : Stmts → Bool
idles no_stmts = false
idles (stmt s no_stmts) = false
idles (stmt s (stmt t ss)) = is_idle s || idles (stmt t ss)

-- nothing is left to reduce in the list itself
pub record IsIrreducibleList (ss : Stmts) : Type 0 where
  pub ends_where_left : goes_on_after_leaving ss ≡ false
  pub tests_no_constant : tests_constant ss ≡ false
  pub never_idles : idles ss ≡ false

-- the lists in a node
abbrev pub InLists : (Stmts → Type 0) → Node → Type 0
InLists Q (OfExpr (BlockExpr ss)) = Q ss
InLists Q (OfStmt (If c a b)) = Q a × Q b
InLists Q (OfStmt (While e b)) = Q b
InLists Q (OfStmt (Do negated exported e b)) = Q b
InLists Q (OfStmt (For x i e b)) = Q b
InLists Q (OfStmt (Block ss)) = Q ss
InLists Q (OfStmt (TryCatch x a b)) = Q a × Q b
InLists Q _ = Unit {0}
