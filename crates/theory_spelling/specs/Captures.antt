-- How a closure takes names from around it: `share`, and the statement behind it that hands them to its function.
use Rattle.std.specs.Prelude.{Bool, true, false, not, cond, ◌&&◌, List, [], ◌∷◌, Option, Some, None, if◌then◌else◌}
use Rattle.std.specs.Option.{option_map}
use Rattle.rhai_base.specs.Operators.{UpTo, Through}
use Rattle.rhai_base.specs.Value.{Text, same_text}
use Rattle.theory_meaning.specs.Shape.{is_none}
use Rattle.theory_meaning.specs.Tree.{CallToken, OfOperator, Expr, DynamicConstant, BoolConstant, IntegerConstant, FloatConstant, CharConstant, StringConstant, UnitConstant, ArrayOf, MapOf, Variable, FnCall, And, Exprs, no_exprs, expr, Pairs, no_pairs, pair, Stmt, Var, Block, ExprStmt, Share, Stmts, no_stmts, stmt}

-- ---- a list

abbrev pub shared : List Text → Stmt → Stmt
shared xs s = Block (stmt (Share xs) (stmt s no_stmts))

abbrev pub is_false : Expr → Bool
is_false (BoolConstant b) = not b
is_false _ = false

abbrev pub begins_false : Exprs → Bool
begins_false no_exprs = false
begins_false (expr e es) = is_false e

-- whether it is an integer, or begins with `false &&`
abbrev pub does_nothing : Stmt → Bool
does_nothing (ExprStmt (IntegerConstant n)) = true
does_nothing (ExprStmt (And es)) = begins_false es
does_nothing _ = false

abbrev pub is_share : Stmt → Bool
is_share (Share xs) = true
is_share _ = false

-- A `share` takes the statement behind it along. What does nothing goes, where another statement follows.
abbrev pub grouped : Stmt → Stmts → Stmts
grouped s no_stmts = stmt s no_stmts
grouped (Share xs) (stmt t ss) = stmt (shared xs t) ss
grouped s (stmt t ss) = cond (does_nothing s) (stmt t ss) (stmt s (stmt t ss))

-- each of a list, from its end on
abbrev pub all_grouped : Stmts → Stmts
all_grouped no_stmts = no_stmts
all_grouped (stmt s ss) = grouped s (all_grouped ss)

-- ---- constants in front of a closure that takes them

abbrev pub is_range_sign : CallToken → Bool
is_range_sign (OfOperator UpTo) = true
is_range_sign (OfOperator Through) = true
is_range_sign _ = false

abbrev pub is_integer : Expr → Bool
is_integer (IntegerConstant n) = true
is_integer _ = false

abbrev pub are_two_integers : Exprs → Bool
are_two_integers (expr a (expr b no_exprs)) = is_integer a && is_integer b
are_two_integers _ = false

-- a literal or a range, which runs nothing: its value is there at once, or it has no meaning
abbrev mutual
  pub is_given : Expr → Bool
  is_given (DynamicConstant v) = true
  is_given (BoolConstant b) = true
  is_given (IntegerConstant n) = true
  is_given (FloatConstant x) = true
  is_given (CharConstant c) = true
  is_given (StringConstant t) = true
  is_given UnitConstant = true
  is_given (ArrayOf es) = are_given es
  is_given (MapOf ps template) = have_given ps
  is_given (FnCall c es) = is_range_sign c.token && are_two_integers es
  is_given _ = false

  pub are_given : Exprs → Bool
  are_given no_exprs = true
  are_given (expr e es) = is_given e && are_given es

  pub have_given : Pairs → Bool
  have_given no_pairs = true
  have_given (pair k e ps) = is_given e && have_given ps

abbrev pub without : Text → List Text → List Text
without x [] = []
without x (y ∷ ys) = cond (same_text y x) (without x ys) (y ∷ without x ys)

abbrev pub is_called : Text → Expr → Bool
is_called x (Variable path y) = is_none path && same_text y x
is_called x _ = false

-- e in the place of a name
abbrev pub put : Text → Expr → Expr → Expr
put x e d = cond (is_called x d) e d

abbrev pub put_each : Text → Expr → Exprs → Exprs
put_each x e no_exprs = no_exprs
put_each x e (expr d ds) = expr (put x e d) (put_each x e ds)

abbrev pub put_in_call : Text → Expr → Stmt → Stmt
put_in_call x e (ExprStmt (FnCall c es)) = ExprStmt (FnCall c (put_each x e es))
put_in_call x e s = s

-- the shared names of a closure, and the statement behind them, with a constant put in
abbrev pub with_known : Stmt → List Text × Stmt → List Text × Stmt
with_known (Var constant exported x e) c = (without x c.0, put_in_call x e c.1)
with_known s c = c

-- whether a statement declares a constant that is a literal
abbrev pub is_known : Stmt → Bool
is_known (Var constant exported x e) = constant && not exported && is_given e
is_known _ = false

-- a block that is a closure
abbrev pub closure_in : Stmt → Option (List Text × Stmt)
closure_in (Block (stmt (Share xs) (stmt s no_stmts))) = Some (xs, s)
closure_in _ = None

-- a closure behind constants, and nothing else; it takes those of them that it shares
abbrev pub captured : Stmts → Option (List Text × Stmt)
captured no_stmts = None
captured (stmt s no_stmts) = closure_in s
captured (stmt s (stmt t ss)) = if is_known s then option_map (with_known s) (captured (stmt t ss)) else None

-- a statement that takes those of these constants that it shares
abbrev pub handed : Stmts → List Text × Stmt → List Text × Stmt
handed no_stmts c = c
handed (stmt s ss) c = with_known s (handed ss c)

abbrev pub are_known : Stmts → Bool
are_known no_stmts = true
are_known (stmt s ss) = is_known s && are_known ss

abbrev pub settled_by : Option (List Text × Stmt) → Stmts → Stmts
settled_by None ss = ss
settled_by (Some c) ss = stmt (shared c.0 c.1) no_stmts

-- In braces, constants in front of a closure that takes them are handed to its function as they are.
abbrev pub settled : Stmts → Stmts
settled ss = settled_by (captured ss) ss
