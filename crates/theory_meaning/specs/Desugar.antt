-- From trees to their core: each test of a node is made here, once.
use Rattle.std.specs.Prelude.{ℕ, Bool, true, false, not, cond, ◌&&◌, List, [], ◌∷◌, map, Option, Some, None, codes}
use Rattle.rhai_base.specs.Value.{Text, UnitV, BoolV, IntV, FloatV, CharV, TextV, same_text}
use Rattle.theory_meaning.specs.Act.{EntryKind, IsVariable, IsConstant, IsAlias, IsExport, Root, OfName, OfGlobal, OfThis}
use Rattle.theory_meaning.specs.Calls.{within}
use Rattle.theory_meaning.specs.Tree as tree
use Rattle.theory_meaning.specs.Core.{Callee, OnOperator, Qualified, ByName, ExitKind, Breaking, Continuing, Returning, Throwing, Expr, Ill, Constant, InterpolatedString, ArrayOf, MapOf, Variable, GlobalVariable, ModuleVariable, ModuleOf, ThisPtr, BlockExpr, FnCall, Chain, And, Or, Coalesce, Exprs, no_exprs, expr, Pairs, no_pairs, pair, Base, OnPlace, OnValue, Step, IllStep, Property, Index, Method, Steps, last, more, Target, IllTarget, Nowhere, ToRoot, ToPart, Guard, Always, When, Arms, no_arms, arm, Deed, IllDeed, Noop, If, Switch, While, Do, For, Assignment, Block, TryCatch, Evaluate, Discard, Leave, Stmt, Var, Does, Stmts, no_stmts, stmt, Function, Script}
use Rattle.theory_meaning.specs.Shape.{is_unit, is_map, is_chain, is_callable, is_table, is_left_side, catch_name}

-- the names of the namespace and the name, joined by `::`
abbrev pub qualified : List Text → Text → Text
qualified [] x = x
qualified (m ∷ ms) x = within m (qualified ms x)

-- the namespace of the script's own constants
abbrev pub is_global : Text → Bool
is_global m = same_text m (codes "global")

abbrev pub in_module : Bool → Text → Text → Expr
in_module true m x = GlobalVariable x
in_module false m x = ModuleVariable m x

abbrev pub variable : List Text → Text → Expr
variable [] x = Variable x
variable (m ∷ []) x = in_module (is_global m) m x
variable (m ∷ n ∷ ns) x = ModuleVariable m (qualified (n ∷ ns) x)

abbrev pub by_name : tree.Callee → List Text → Callee
by_name c [] = ByName c.name c.captures
by_name c (m ∷ ms) = Qualified m (qualified ms c.name)

abbrev pub callee_by : tree.Callee → tree.CallToken → Callee
callee_by c tree.NoToken = by_name c c.namespace
callee_by c (tree.OfOperator op) = OnOperator op
callee_by c tree.OfOther = by_name c c.namespace

abbrev pub call_of : tree.Callee → ℕ → Exprs → Expr
call_of c n es = cond (is_callable c n) (FnCall (callee_by c c.token) es) Ill

abbrev pub method_of : tree.Callee → ℕ → Exprs → Step
method_of c n es = cond (is_callable c n) (Method c.name es) IllStep

abbrev pub name_root : List Text → Text → Option Root
name_root [] x = Some (OfName x)
name_root (m ∷ []) x = cond (is_global m) (Some (OfGlobal x)) None
name_root (m ∷ n ∷ ns) x = None

abbrev pub root_of : tree.Expr → Option Root
root_of (tree.Variable ns x) = name_root ns x
root_of tree.ThisPtr = Some OfThis
root_of _ = None

abbrev pub based : Option Root → Expr → Base
based (Some r) e = OnPlace r
based None e = OnValue e

-- whether the last step is a call, by the right side of a `Dot` (dot) or an `Index`
abbrev pub ends_in_call : (dot breaks : Bool) → tree.Expr → Bool
ends_in_call dot breaks (tree.MethodCall c es) = dot
ends_in_call dot breaks (tree.Dot k l r) = not breaks && ends_in_call true k.breaks r
ends_in_call dot breaks (tree.Index k l r) = not breaks && ends_in_call false k.breaks r
ends_in_call dot breaks _ = false

abbrev pub part_target : Option Root → Bool → Steps → Target
part_target None call sts = Nowhere
part_target (Some r) true sts = Nowhere
part_target (Some r) false sts = ToPart r sts

abbrev pub name_target : List Text → Text → Target
name_target [] x = ToRoot (OfName x)
name_target (m ∷ ms) x = Nowhere

-- a literal unit is always true
abbrev pub guard_by : tree.Expr → Expr → Guard
guard_by tree.UnitConstant e = Always
guard_by _ e = When e

abbrev pub try_by : Option (Option Text) → Stmts → Stmts → Deed
try_by None a b = IllDeed
try_by (Some x) a b = TryCatch x a b

abbrev pub name_kind : Bool → EntryKind
name_kind true = IsConstant
name_kind false = IsVariable

-- the alias, or the name itself where there is none
abbrev pub or_own : Text → Text → Text
or_own [] x = x
or_own (c ∷ cs) x = c ∷ cs

-- an alias of the module of a path; without a name there is none
abbrev pub alias : Text → Expr → Stmt
alias [] e = Does (Discard (ModuleOf e))
alias (c ∷ cs) e = Var IsAlias false (c ∷ cs) (ModuleOf e)

abbrev pub break_kind : Bool → ExitKind
break_kind true = Breaking
break_kind false = Continuing

abbrev pub return_kind : Bool → ExitKind
return_kind true = Throwing
return_kind false = Returning

-- loop: the part stands in the body of a loop of its function
abbrev mutual
  pub core_expr : Bool → tree.Expr → Expr
  core_expr loop (tree.DynamicConstant v) = cond (is_unit v) Ill (Constant v)
  core_expr loop (tree.BoolConstant b) = Constant (BoolV b)
  core_expr loop (tree.IntegerConstant n) = Constant (IntV n)
  core_expr loop (tree.FloatConstant x) = Constant (FloatV x)
  core_expr loop (tree.CharConstant c) = Constant (CharV c)
  core_expr loop (tree.StringConstant t) = Constant (TextV t)
  core_expr loop tree.UnitConstant = Constant UnitV
  core_expr loop (tree.InterpolatedString es) = InterpolatedString (core_exprs loop es)
  core_expr loop (tree.ArrayOf es) = ArrayOf (core_exprs loop es)
  core_expr loop (tree.MapOf ps template) = cond (is_map template ps) (MapOf (core_pairs loop ps)) Ill
  core_expr loop (tree.Variable p x) = variable p x
  core_expr loop tree.ThisPtr = ThisPtr
  core_expr loop (tree.Property p) = Ill
  core_expr loop (tree.MethodCall c es) = Ill
  core_expr loop (tree.BlockExpr ss) = BlockExpr (core_stmts loop ss)
  core_expr loop (tree.FnCall c es) = call_of c (tree.count_exprs es) (core_exprs loop es)
  core_expr loop (tree.Dot k l r) = cond (is_chain true k r) (Chain (based (root_of l) (core_expr loop l)) (steps_of loop true k (member_of loop r) r)) Ill
  core_expr loop (tree.Index k l r) = cond (is_chain false k r) (Chain (based (root_of l) (core_expr loop l)) (steps_of loop false k (Index (core_expr loop r)) r)) Ill
  core_expr loop (tree.And es) = And (core_exprs loop es)
  core_expr loop (tree.Or es) = Or (core_exprs loop es)
  core_expr loop (tree.Coalesce es) = Coalesce (core_exprs loop es)

  pub core_exprs : Bool → tree.Exprs → Exprs
  core_exprs loop tree.no_exprs = no_exprs
  core_exprs loop (tree.expr e es) = expr (core_expr loop e) (core_exprs loop es)

  pub core_pairs : Bool → tree.Pairs → Pairs
  core_pairs loop tree.no_pairs = no_pairs
  core_pairs loop (tree.pair k e ps) = pair k (core_expr loop e) (core_pairs loop ps)

  -- the argument of a `Dot`
  pub member_of : Bool → tree.Expr → Step
  member_of loop (tree.Property p) = Property p
  member_of loop (tree.MethodCall c es) = method_of c (tree.count_exprs es) (core_exprs loop es)
  member_of loop _ = IllStep

  -- the steps of a chain by its right side; p: that side as the last argument
  pub steps_of : Bool → (dot : Bool) → tree.ChainFlags → Step → tree.Expr → Steps
  steps_of loop dot k p (tree.Dot m l r) =
      cond k.breaks (last k.negated p)
      (more k.negated (cond dot (member_of loop l) (Index (core_expr loop l))) (steps_of loop true m (member_of loop r) r))
  steps_of loop dot k p (tree.Index m l r) =
      cond k.breaks (last k.negated p)
      (more k.negated (cond dot (member_of loop l) (Index (core_expr loop l))) (steps_of loop false m (Index (core_expr loop r)) r))
  steps_of loop dot k p _ = last k.negated p

  pub target_of : Bool → tree.Expr → Target
  target_of loop (tree.Variable p x) = name_target p x
  target_of loop tree.ThisPtr = ToRoot OfThis
  target_of loop (tree.Dot k l r) = cond (is_chain true k r) (part_target (root_of l) (ends_in_call true k.breaks r) (steps_of loop true k (member_of loop r) r)) IllTarget
  target_of loop (tree.Index k l r) = cond (is_chain false k r) (part_target (root_of l) (ends_in_call false k.breaks r) (steps_of loop false k (Index (core_expr loop r)) r)) IllTarget
  target_of loop _ = IllTarget

  pub core_arms : Bool → tree.Arms → Arms
  core_arms loop tree.no_arms = no_arms
  core_arms loop (tree.arm c a as') = arm (core_expr loop c) (core_expr loop a) (core_arms loop as')

  pub core_maybe : Bool → tree.MaybeExpr → Expr
  core_maybe loop tree.no_expr = Constant UnitV
  core_maybe loop (tree.an_expr e) = core_expr loop e

  pub core_stmt : Bool → tree.Stmt → Stmt
  core_stmt loop tree.Noop = Does Noop
  core_stmt loop (tree.If e a b) = Does (If (core_expr loop e) (core_stmts loop a) (core_stmts loop b))
  core_stmt loop (tree.Switch e as' t) = Does (cond (is_table as' t) (Switch (core_expr loop e) (core_arms loop as') t) IllDeed)
  core_stmt loop (tree.While e body) = Does (While (guard_by e (core_expr loop e)) (core_stmts true body))
  core_stmt loop (tree.Do negated exported e body) = Does (Do negated (core_expr loop e) (core_stmts true body))
  core_stmt loop (tree.For x i e body) = Does (For x i (core_expr loop e) (core_stmts true body))
  core_stmt loop (tree.Var constant exported x e) = Var (name_kind constant) exported x (core_expr loop e)
  core_stmt loop (tree.Assignment op l e) = Does (cond (is_left_side l) (Assignment op (target_of loop l) (core_expr loop e)) IllDeed)
  core_stmt loop (tree.FnCallStmt c es) = Does (Evaluate (call_of c (tree.count_exprs es) (core_exprs loop es)))
  core_stmt loop (tree.Block ss) = Does (Block (core_stmts loop ss))
  core_stmt loop (tree.TryCatch x a b) = Does (try_by (catch_name x) (core_stmts loop a) (core_stmts loop b))
  core_stmt loop (tree.ExprStmt e) = Does (Evaluate (core_expr loop e))
  core_stmt loop (tree.BreakLoop is_break exported m) = Does (cond loop (Leave (break_kind is_break) (core_maybe loop m)) IllDeed)
  core_stmt loop (tree.Return is_throw exported m) = Does (Leave (return_kind is_throw) (core_maybe loop m))
  core_stmt loop (tree.Import e x) = alias x (core_expr loop e)
  core_stmt loop (tree.Export x y) = Var IsExport false (or_own y x) (Variable x)
  core_stmt loop (tree.Share xs) = Does IllDeed

  pub core_stmts : Bool → tree.Stmts → Stmts
  core_stmts loop tree.no_stmts = no_stmts
  core_stmts loop (tree.stmt s ss) = stmt (core_stmt loop s) (core_stmts loop ss)

abbrev pub core_function : tree.Function → Function
core_function f = record { name = f.name; this_type = f.this_type; params = f.params; body = core_stmts false f.body }

abbrev pub core_script : tree.Script → Script
core_script p = record { statements = core_stmts false p.statements; functions = map core_function p.functions }
