-- Trees whose constants point to functions by other names.
use Rattle.std.specs.Prelude.{◌≡◌, Bool, true, false, not, ◌&&◌, ◌||◌, List, map, ◌++◌, Option, Some, None, codes}
use Rattle.rhai_base.specs.Value.{Text, Value, ArrayV, MapV, PointerV, Values, no_values, item, Fields, no_fields, field, same_text}
use Rattle.base_tokens.specs.Names.{after, anonymous}
use Rattle.theory_meaning.specs.Walk.{Node, OfExpr, OfStmt}
use Rattle.theory_meaning.specs.Tree.{Callee, Expr, DynamicConstant, StringConstant, InterpolatedString, ArrayOf, MapOf, MethodCall, BlockExpr, FnCall, Dot, Index, And, Or, Coalesce, Exprs, no_exprs, expr, Pairs, no_pairs, pair, MaybeExpr, no_expr, an_expr, Arms, no_arms, arm, Stmt, If, Switch, While, Do, For, Var, Assignment, FnCallStmt, Block, TryCatch, ExprStmt, BreakLoop, Return, Import, Stmts, no_stmts, stmt, Function, Script}

-- ---- names

-- whether a function has no name of its own
abbrev pub is_anonymous : Text → Bool
is_anonymous f = elim (after anonymous f) [ None ↦ false | Some t ↦ true ]

-- letters put behind `anon$`; other names stay
abbrev pub with_mark : Text → Text → Text
with_mark mark f = elim (after anonymous f) [ None ↦ f | Some t ↦ anonymous ++ mark ++ t ]

-- ---- values: each pointer by the name that `named` gives its own

abbrev mutual
  pub renamed_value : (Text → Text) → Value → Value
  renamed_value named (ArrayV vs) = ArrayV (renamed_values named vs)
  renamed_value named (MapV fs) = MapV (renamed_fields named fs)
  renamed_value named (PointerV f vs) = PointerV (named f) (renamed_values named vs)
  renamed_value named v = v

  pub renamed_values : (Text → Text) → Values → Values
  renamed_values named no_values = no_values
  renamed_values named (item v vs) = item (renamed_value named v) (renamed_values named vs)

  pub renamed_fields : (Text → Text) → Fields → Fields
  renamed_fields named no_fields = no_fields
  renamed_fields named (field k v fs) = field k (renamed_value named v) (renamed_fields named fs)

-- ---- trees

abbrev mutual
  pub renamed_expr : (Text → Text) → Expr → Expr
  renamed_expr named (DynamicConstant v) = DynamicConstant (renamed_value named v)
  renamed_expr named (InterpolatedString es) = InterpolatedString (renamed_exprs named es)
  renamed_expr named (ArrayOf es) = ArrayOf (renamed_exprs named es)
  renamed_expr named (MapOf ps template) = MapOf (renamed_pairs named ps) template
  renamed_expr named (MethodCall c es) = MethodCall c (renamed_exprs named es)
  renamed_expr named (BlockExpr ss) = BlockExpr (renamed_stmts named ss)
  renamed_expr named (FnCall c es) = FnCall c (renamed_exprs named es)
  renamed_expr named (Dot k l r) = Dot k (renamed_expr named l) (renamed_expr named r)
  renamed_expr named (Index k l r) = Index k (renamed_expr named l) (renamed_expr named r)
  renamed_expr named (And es) = And (renamed_exprs named es)
  renamed_expr named (Or es) = Or (renamed_exprs named es)
  renamed_expr named (Coalesce es) = Coalesce (renamed_exprs named es)
  renamed_expr named e = e

  pub renamed_exprs : (Text → Text) → Exprs → Exprs
  renamed_exprs named no_exprs = no_exprs
  renamed_exprs named (expr e es) = expr (renamed_expr named e) (renamed_exprs named es)

  pub renamed_pairs : (Text → Text) → Pairs → Pairs
  renamed_pairs named no_pairs = no_pairs
  renamed_pairs named (pair k e ps) = pair k (renamed_expr named e) (renamed_pairs named ps)

  pub renamed_maybe : (Text → Text) → MaybeExpr → MaybeExpr
  renamed_maybe named no_expr = no_expr
  renamed_maybe named (an_expr e) = an_expr (renamed_expr named e)

  pub renamed_arms : (Text → Text) → Arms → Arms
  renamed_arms named no_arms = no_arms
  renamed_arms named (arm c a as') = arm (renamed_expr named c) (renamed_expr named a) (renamed_arms named as')

  pub renamed_stmt : (Text → Text) → Stmt → Stmt
  renamed_stmt named (If e a b) = If (renamed_expr named e) (renamed_stmts named a) (renamed_stmts named b)
  renamed_stmt named (Switch e as' t) = Switch (renamed_expr named e) (renamed_arms named as') t
  renamed_stmt named (While e b) = While (renamed_expr named e) (renamed_stmts named b)
  renamed_stmt named (Do negated exported e b) = Do negated exported (renamed_expr named e) (renamed_stmts named b)
  renamed_stmt named (For x i e b) = For x i (renamed_expr named e) (renamed_stmts named b)
  renamed_stmt named (Var constant exported x e) = Var constant exported x (renamed_expr named e)
  renamed_stmt named (Assignment op l e) = Assignment op (renamed_expr named l) (renamed_expr named e)
  renamed_stmt named (FnCallStmt c es) = FnCallStmt c (renamed_exprs named es)
  renamed_stmt named (Block ss) = Block (renamed_stmts named ss)
  renamed_stmt named (TryCatch x a b) = TryCatch (renamed_expr named x) (renamed_stmts named a) (renamed_stmts named b)
  renamed_stmt named (ExprStmt e) = ExprStmt (renamed_expr named e)
  renamed_stmt named (BreakLoop breaks exported m) = BreakLoop breaks exported (renamed_maybe named m)
  renamed_stmt named (Return throws exported m) = Return throws exported (renamed_maybe named m)
  renamed_stmt named (Import e x) = Import (renamed_expr named e) x
  renamed_stmt named s = s

  pub renamed_stmts : (Text → Text) → Stmts → Stmts
  renamed_stmts named no_stmts = no_stmts
  renamed_stmts named (stmt s ss) = stmt (renamed_stmt named s) (renamed_stmts named ss)

abbrev pub renamed_function : (Text → Text) → Function → Function
renamed_function named f = record { name = named f.name; this_type = f.this_type; params = f.params; body = renamed_stmts named f.body }

abbrev pub renamed_script : (Text → Text) → Script → Script
renamed_script named p = record { statements = renamed_stmts named p.statements; functions = map (renamed_function named) p.functions }

-- ---- what new names mean

-- which function of renamed trees stands for one of those that they were made of
abbrev pub Stands : (Text → Text) → Text → Text → Type 0
Stands named f g = f ≡ named g

-- one text, which is no closure's name
abbrev pub names_one : Exprs → Bool
names_one (expr (StringConstant t) no_exprs) = not (is_anonymous t)
names_one _ = false

-- Calls say which function by a name of its own, and `Fn` takes one that stands there.
abbrev pub call_by_name : Callee → Exprs → Bool
call_by_name c es = not (is_anonymous c.name) && (not (same_text c.name (codes "Fn")) || names_one es)

abbrev pub calls_by_name : Node → Bool
calls_by_name (OfExpr (FnCall c es)) = call_by_name c es
calls_by_name (OfExpr (MethodCall c es)) = not (is_anonymous c.name)
calls_by_name (OfStmt (FnCallStmt c es)) = call_by_name c es
calls_by_name _ = true
