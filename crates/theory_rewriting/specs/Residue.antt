-- Trees in which none of the forms below is left, at every depth that the optimiser reaches.
use Rattle.std.specs.Prelude.{◌≡◌, Bool, true, false, ◌&&◌, not, None}
use Rattle.theory_meaning.specs.Engine.{Engine}
use Rattle.theory_meaning.specs.Constants.{constant_bool, constant_entries, constant_values, text_constants, is_constant, is_literal_unit}
use Rattle.theory_meaning.specs.Shape.{is_rest, is_left_side, is_table}
use Rattle.theory_meaning.specs.Tree.{Expr, InterpolatedString, ArrayOf, MapOf, BlockExpr, FnCall, Dot, Index, And, Or, Coalesce, Exprs, Pairs, MaybeExpr, Arms, no_arms, arm, Stmt, If, Switch, While, Assignment, ExprStmt, FnCallStmt, Stmts, no_stmts, stmt}
use Rattle.theory_meaning.specs.Walk.{Node, OfExpr, OfStmt, Spot, RightSide, Walk, every, parts_of_expr, parts_of_stmt, over_expr, over_exprs, over_pairs, over_maybe, over_stmt, over_stmts}
use Rattle.theory_rewriting.specs.Folding.{folded}
use Rattle.theory_rewriting.specs.Choosing.{is_chosen}
use Rattle.theory_rewriting.specs.Answering.{is_always, follows_deciding, follows_some, AnswersNothing, InExpressions}
use Rattle.theory_rewriting.specs.Testing.{IsIrreducibleList, InLists}

-- ---- a node by itself

-- one expression statement alone, over a constant that isn't unit
abbrev pub holds_constant : Stmts → Bool
holds_constant (stmt (ExprStmt e) no_stmts) = is_constant e && not (is_literal_unit e)
holds_constant _ = false

-- A node by itself, as `IsIrreducibleAlone` of the whole language; of a `switch` without a table nothing is claimed.
abbrev pub IsReducedNode : Engine → Node → Type 0
IsReducedNode r (OfExpr (ArrayOf es)) = constant_values es ≡ None
IsReducedNode r (OfExpr (MapOf ps template)) = constant_entries ps ≡ None
IsReducedNode r (OfExpr (InterpolatedString es)) = text_constants es ≡ None
IsReducedNode r (OfExpr (BlockExpr ss)) = holds_constant ss ≡ false
IsReducedNode r (OfExpr (FnCall c es)) = folded r c es ≡ None
IsReducedNode r (OfExpr (And es)) = follows_deciding false es ≡ false
IsReducedNode r (OfExpr (Or es)) = follows_deciding true es ≡ false
IsReducedNode r (OfExpr (Coalesce es)) = follows_some es ≡ false
IsReducedNode r (OfStmt (If c a b)) = constant_bool c ≡ None
IsReducedNode r (OfStmt (Switch e as' t)) = is_table as' t ≡ true → is_chosen e t ≡ false
IsReducedNode r (OfStmt (While e b)) = is_always false e ≡ false
IsReducedNode r (OfStmt (FnCallStmt c es)) = folded r c es ≡ None
IsReducedNode r _ = Unit {0}

-- ---- at every depth that the optimiser reaches

abbrev pub when : Bool → Type 0 → Type 0
when true p = p
when false p = Unit {0}

-- what is claimed of the parts of a node: of an assignment to what is no left side nothing
abbrev pub where_opened : Node → Type 0 → Type 0
where_opened (OfStmt (Assignment op l e)) p = when (is_left_side l) p
where_opened _ p = p

-- what is claimed of a part that stands somewhere: of what is no rest of a chain nothing
abbrev pub where_it_stands : Spot → Type 0 → Type 0
where_it_stands (RightSide dot k e) p = when (is_rest dot k.breaks e) p
where_it_stands _ p = p

-- what is claimed of the expressions in a node: of a chain whose right side is no rest of one nothing
abbrev pub where_chained : Node → Type 0 → Type 0
where_chained (OfExpr (Dot f l e)) p = when (is_rest true f.breaks e) p
where_chained (OfExpr (Index f l e)) p = when (is_rest false f.breaks e) p
where_chained _ p = p

abbrev pub ExpressionsAnswerNothing : Node → Type 0
ExpressionsAnswerNothing n = where_chained n (InExpressions AnswersNothing n)

-- P holds of every node that is reached, nothing is left to reduce in its lists, and its expressions are no chains with an answer
abbrev pub every_reached : (Node → Type 0) → Walk (Type 0)
every_reached P = record (every P) { node = λ n p. P n × where_opened n (InLists IsIrreducibleList n × (ExpressionsAnswerNothing n × p)); within = λ s p. where_it_stands s p }

abbrev pub IsReducedExpr : Engine → Expr → Type 0
IsReducedExpr r e = over_expr (every_reached (IsReducedNode r)) e

abbrev pub AreReducedExprs : Engine → Exprs → Type 0
AreReducedExprs r es = over_exprs (every_reached (IsReducedNode r)) es

abbrev pub AreReducedPairs : Engine → Pairs → Type 0
AreReducedPairs r ps = over_pairs (every_reached (IsReducedNode r)) ps

abbrev pub IsReducedMaybe : Engine → MaybeExpr → Type 0
IsReducedMaybe r m = over_maybe (every_reached (IsReducedNode r)) m

-- also of arms that no table lists
abbrev pub AreReducedArms : Engine → Arms → Type 0
AreReducedArms r no_arms = Unit {0}
AreReducedArms r (arm c a as') = (IsReducedExpr r c × IsReducedExpr r a) × AreReducedArms r as'

abbrev pub IsReduced : Engine → Stmt → Type 0
IsReduced r s = over_stmt (every_reached (IsReducedNode r)) s

abbrev pub AreReduced : Engine → Stmts → Type 0
AreReduced r ss = over_stmts (every_reached (IsReducedNode r)) ss

-- in the parts of a node, where the optimiser opens it
abbrev pub ExprParts : Engine → Expr → Type 0
ExprParts r e = where_opened (OfExpr e) (InLists IsIrreducibleList (OfExpr e) × (ExpressionsAnswerNothing (OfExpr e) × parts_of_expr (every_reached (IsReducedNode r)) e))

abbrev pub StmtParts : Engine → Stmt → Type 0
StmtParts r s = where_opened (OfStmt s) (InLists IsIrreducibleList (OfStmt s) × (ExpressionsAnswerNothing (OfStmt s) × parts_of_stmt (every_reached (IsReducedNode r)) s))
