-- What the words and the grammar cover so far.
use Rattle.std.specs.Prelude.{◌≡◌, ℕ, Bool, true, false, not, ◌&&◌, ◌||◌, IsTrue, List, [], ◌∷◌, ◌==◌, nat_lt}
use Rattle.base_text.specs.Text.{Text}
use Rattle.theory_meaning.specs.Tree.{Expr, DynamicConstant, CharConstant, InterpolatedString, ArrayOf, MapOf, MethodCall, BlockExpr, FnCall, Dot, Index, And, Or, Coalesce, Exprs, no_exprs, expr, ExprStmt, Pairs, no_pairs, pair, MaybeExpr, no_expr, an_expr, Stmt, If, Switch, While, Do, For, Var, Assignment, FnCallStmt, Block, TryCatch, BreakLoop, Return, Import, Stmts, no_stmts, stmt, Function, Script}
use Rattle.theory_grammar.specs.Words.{escaped_letter, goes_on}
use Rattle.theory_grammar.specs.Grammar.{Spells}
use Rattle.theory_grammar.specs.Statements.{SpellsScript}

-- trees: all but constants that were folded, characters, texts with blocks, and blocks
abbrev mutual
  pub is_covered : Expr → Bool
  is_covered (DynamicConstant v) = false
  is_covered (CharConstant c) = false
  is_covered (InterpolatedString es) = false
  is_covered (BlockExpr ss) = false
  is_covered (ArrayOf es) = are_covered es
  is_covered (MapOf ps keys) = pairs_are_covered ps
  is_covered (MethodCall c es) = are_covered es
  is_covered (FnCall c es) = are_covered es
  is_covered (Dot k a b) = is_covered a && is_covered b
  is_covered (Index k a b) = is_covered a && is_covered b
  is_covered (And es) = are_covered es
  is_covered (Or es) = are_covered es
  is_covered (Coalesce es) = are_covered es
  is_covered _ = true

  pub are_covered : Exprs → Bool
  are_covered no_exprs = true
  are_covered (expr e es) = is_covered e && are_covered es

  pub pairs_are_covered : Pairs → Bool
  pairs_are_covered no_pairs = true
  pairs_are_covered (pair x e ps) = is_covered e && pairs_are_covered ps

abbrev pub carried_is_covered : MaybeExpr → Bool
carried_is_covered no_expr = true
carried_is_covered (an_expr e) = is_covered e

-- all statements but `switch`
abbrev mutual
  pub statement_is_covered : Stmt → Bool
  statement_is_covered (Switch e a t) = false
  statement_is_covered (If e ss os) = is_covered e && statements_are_covered ss && statements_are_covered os
  statement_is_covered (While e ss) = is_covered e && statements_are_covered ss
  statement_is_covered (Do k x e ss) = is_covered e && statements_are_covered ss
  statement_is_covered (For x i e ss) = is_covered e && statements_are_covered ss
  statement_is_covered (Var k x y e) = is_covered e
  statement_is_covered (Assignment op a b) = is_covered a && is_covered b
  statement_is_covered (FnCallStmt c es) = are_covered es
  statement_is_covered (Block ss) = statements_are_covered ss
  statement_is_covered (TryCatch e ss cs) = is_covered e && statements_are_covered ss && statements_are_covered cs
  statement_is_covered (ExprStmt e) = is_covered e
  statement_is_covered (BreakLoop k x e) = carried_is_covered e
  statement_is_covered (Return k x e) = carried_is_covered e
  statement_is_covered (Import e x) = is_covered e
  statement_is_covered _ = true

  pub statements_are_covered : Stmts → Bool
  statements_are_covered no_stmts = true
  statements_are_covered (stmt s ss) = statement_is_covered s && statements_are_covered ss

abbrev pub functions_are_covered : List Function → Bool
functions_are_covered [] = true
functions_are_covered (f ∷ fs) = statements_are_covered f.body && functions_are_covered fs

abbrev pub script_is_covered : Script → Bool
script_is_covered p = statements_are_covered p.statements && functions_are_covered p.functions

-- a letter that means something behind a `\`, and a quote
abbrev pub is_escaped : ℕ → Bool
is_escaped c = nat_lt 0 (escaped_letter c)

abbrev pub is_quote : ℕ → Bool
is_quote c = c == 34

-- whether what begins with a letter may be a text that is not covered: one in back-ticks or between signs of number, or
-- one with a code or a line that goes on
abbrev pub is_odd : ℕ → Text → Bool
is_odd c cs = c == 96 || (c == 35 && goes_on is_quote cs) || (c == 92 && not (goes_on is_escaped cs))

-- texts: those in which nothing begins so
abbrev pub is_simple : Text → Bool
is_simple [] = true
is_simple (c ∷ cs) = not (is_odd c cs) && is_simple cs

-- statements are one expression, which the text spells if both are covered
pub record IsOneExpression (ws : Text) (ss : Stmts) : Type 0 where
  pub one : Expr
  pub is_one : ss ≡ stmt (ExprStmt one) no_stmts
  pub spelled : IsTrue (is_simple ws && is_covered one) → Spells ws one

-- a text spells a script if both are covered
abbrev pub IsSpelled : Text → Script → Type 0
IsSpelled ws p = IsTrue (is_simple ws && script_is_covered p) → SpellsScript ws p
