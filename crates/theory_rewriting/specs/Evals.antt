-- Statements behind which names stay known: behind a call of `eval` another one may have been declared.
use Rattle.std.specs.Prelude.{Bool, true, ◌&&◌, ◌||◌, not}
use Rattle.theory_meaning.specs.Plain.{all_true}
use Rattle.theory_meaning.specs.Queries.{is_eval, is_pure}
use Rattle.theory_meaning.specs.Tree.{FnCall, Stmt, FnCallStmt}
use Rattle.theory_meaning.specs.Walk.{Node, OfExpr, OfStmt, Walk, parts_of_stmt}

abbrev pub is_no_eval : Node → Bool
is_no_eval (OfExpr (FnCall c es)) = not (is_eval c)
is_no_eval (OfStmt (FnCallStmt c es)) = not (is_eval c)
is_no_eval n = true

-- asked of expressions alone: what is declared in a list inside is forgotten at its end
abbrev pub in_expression : Node → Bool → Bool
in_expression (OfExpr e) p = is_no_eval (OfExpr e) && p
in_expression (OfStmt s) p = true

abbrev pub eval_walk : Walk Bool
eval_walk = record (all_true is_no_eval) { node = in_expression }

-- a statement and its expressions at any depth
abbrev pub calls_no_eval : Stmt → Bool
calls_no_eval s = is_no_eval (OfStmt s) && parts_of_stmt eval_walk s

-- what is pure may go from its list, and in an odd tree has a call that is never made
abbrev pub keeps_names : Stmt → Bool
keeps_names s = calls_no_eval s || is_pure s
