-- Each declared node with the tree that it stands for, for proofs by case on the node.
use Rattle.std.proofs.Common.{◌≡◌, ℕ, ℤ, Bool, List, Option, sym, subst}
use Rattle.std.specs.declared.num.NonZeroU8.{NonZeroU8}
use Rattle.std.specs.declared.num.NonZeroUsize.{NonZeroUsize}
use Rattle.base_tokens.specs.declared.op_assignment.OpAssignment.{OpAssignment}
use Rattle.base_tokens.specs.declared.position.Position.{Position}
use Rattle.base_tokens.specs.declared.flags.ASTFlags.{ASTFlags}
use Rattle.base_tokens.specs.declared.ident.Ident.{Ident}
use Rattle.base_tokens.specs.declared.namespace.Namespace.{Namespace}
use Rattle.rhai_base.specs.declared.dynamic.Dynamic.{Dynamic}
use Rattle.rhai_base.specs.declared.float_wrapper.FloatWrapper.{FloatWrapper}
use Rattle.rhai_base.specs.Reading.{value_of}
use Rattle.rhai_base.specs.Value.{Text}
use Rattle.rhai_base.specs.Builtin.{operator_of}
use Rattle.ast_types.specs.declared.block.StmtBlock.{StmtBlock}
use Rattle.ast_types.specs.declared.expr.BinaryExpr.{BinaryExpr}
use Rattle.ast_types.specs.declared.expr.Expr as declared_expr
use Rattle.ast_types.specs.declared.expr.Expr.TheOpen as open_one
use Rattle.ast_types.specs.declared.expr.Expr.TheVariants as expr_kind
use Rattle.ast_types.specs.declared.expr.Expr.TheViews as views
use Rattle.ast_types.specs.declared.expr.FnCallExpr.{FnCallExpr}
use Rattle.ast_types.specs.declared.stmt.FlowControl.{FlowControl}
use Rattle.ast_types.specs.declared.stmt.Stmt as declared_stmt
use Rattle.ast_types.specs.declared.stmt.Stmt.TheVariants as stmt_kind
use Rattle.ast_types.specs.declared.switch.SwitchBlock.{SwitchBlock}
use Rattle.ast_types.specs.declared.switch.SwitchCasesCollection.{SwitchCasesCollection}
use Rattle.theory_meaning.specs.Tree.{Expr, DynamicConstant, BoolConstant, IntegerConstant, FloatConstant, CharConstant, StringConstant, UnitConstant, InterpolatedString, ArrayOf, MapOf, Variable, ThisPtr, Property, MethodCall, BlockExpr, FnCall, Dot, Index, And, Or, Coalesce, Stmt, Noop, If, Switch, While, Do, For, Var, Assignment, FnCallStmt, Block, TryCatch, ExprStmt, BreakLoop, Return, Import, Export, Share}
use Rattle.ast_types.specs.Reading.{is_const, is_exported, is_negated, breaks, chain_flags, path_of, property_names, counter_of, shared_names, keys_of, table_of, subject_of, cases_of, expressions_of, callee_of, pairs_of, maybe_of, arms_of, expr_of, exprs_of, stmt_of, stmts_of, expr_of-DynamicConstant, expr_of-BoolConstant, expr_of-IntegerConstant, expr_of-FloatConstant, expr_of-CharConstant, expr_of-StringConstant, expr_of-InterpolatedString, expr_of-Array, expr_of-Map, expr_of-Unit, expr_of-Variable, expr_of-ThisPtr, expr_of-Property, expr_of-MethodCall, expr_of-Stmt, expr_of-FnCall, expr_of-Dot, expr_of-Index, expr_of-And, expr_of-Or, expr_of-Coalesce, stmt_of-Noop, stmt_of-If, stmt_of-Switch, stmt_of-While, stmt_of-Do, stmt_of-For, stmt_of-Var, stmt_of-Assignment, stmt_of-FnCall, stmt_of-Block, stmt_of-TryCatch, stmt_of-Expr, stmt_of-BreakLoop, stmt_of-Return, stmt_of-Import, stmt_of-Export, stmt_of-Share}

-- an expression, with the tree that it stands for
pub data ExprCase : declared_expr.Expr → Expr → Type 0 where
  dynamic_constant_case : (v : Dynamic) (p : Position) → ExprCase (expr_kind.DynamicConstant v p) (DynamicConstant (value_of v))
  bool_constant_case : (b : Bool) (p : Position) → ExprCase (expr_kind.BoolConstant b p) (BoolConstant b)
  integer_constant_case : (n : ℤ) (p : Position) → ExprCase (expr_kind.IntegerConstant n p) (IntegerConstant n)
  float_constant_case : (x : FloatWrapper) (p : Position) → ExprCase (expr_kind.FloatConstant x p) (FloatConstant x.bits)
  char_constant_case : (c : ℕ) (p : Position) → ExprCase (expr_kind.CharConstant c p) (CharConstant c)
  string_constant_case : (t : Text) (p : Position) → ExprCase (expr_kind.StringConstant t p) (StringConstant t)
  interpolated_string_case : (xs : List declared_expr.Expr) (p : Position) → ExprCase (expr_kind.InterpolatedString xs p) (InterpolatedString (exprs_of xs))
  array_case : (xs : List declared_expr.Expr) (p : Position) → ExprCase (expr_kind.Array xs p) (ArrayOf (exprs_of xs))
  map_case : (m : List (Ident × declared_expr.Expr) × List (Text × Dynamic)) (p : Position) → ExprCase (expr_kind.Map m p) (MapOf (pairs_of m.0) (keys_of m.1))
  unit_case : (p : Position) → ExprCase (expr_kind.Unit p) UnitConstant
  variable_case : (x : Option NonZeroUsize × Text × Namespace) (short : Option NonZeroU8) (p : Position) → ExprCase (expr_kind.Variable x short p) (Variable (path_of x.2) x.1)
  this_ptr_case : (p : Position) → ExprCase (expr_kind.ThisPtr p) ThisPtr
  property_case : (x : Text × Text × Text) (p : Position) → ExprCase (expr_kind.Property x p) (Property (property_names x))
  method_call_case : (c : FnCallExpr) (p : Position) → ExprCase (expr_kind.MethodCall c p) (MethodCall (callee_of c) (exprs_of c.args))
  braces_case : (b : StmtBlock) → ExprCase (expr_kind.Stmt b) (BlockExpr (stmts_of b.block))
  call_case : (c : FnCallExpr) (p : Position) → ExprCase (expr_kind.FnCall c p) (FnCall (callee_of c) (exprs_of c.args))
  dot_case : (x : BinaryExpr) (k : ASTFlags) (p : Position) → ExprCase (expr_kind.Dot x k p) (Dot (chain_flags k) (expr_of x.lhs) (expr_of x.rhs))
  index_case : (x : BinaryExpr) (k : ASTFlags) (p : Position) → ExprCase (expr_kind.Index x k p) (Index (chain_flags k) (expr_of x.lhs) (expr_of x.rhs))
  and_case : (xs : List declared_expr.Expr) (p : Position) → ExprCase (expr_kind.And xs p) (And (exprs_of xs))
  or_case : (xs : List declared_expr.Expr) (p : Position) → ExprCase (expr_kind.Or xs p) (Or (exprs_of xs))
  coalesce_case : (xs : List declared_expr.Expr) (p : Position) → ExprCase (expr_kind.Coalesce xs p) (Coalesce (exprs_of xs))

expr_as : {x y : declared_expr.Expr} {t : Expr} → x ≡ y → expr_of y ≡ t → ExprCase y t → ExprCase x (expr_of x)
expr_as {y = y} i j c = subst (λ z. ExprCase z (expr_of z)) (sym i) (subst (ExprCase y) (sym j) c)

expr_rolled : (x : open_one.Expr-F declared_expr.Expr declared_stmt.Stmt StmtBlock BinaryExpr FnCallExpr FlowControl SwitchBlock SwitchCasesCollection) → ExprCase (views.roll-Expr x) (expr_of (views.roll-Expr x))
expr_rolled (open_one.DynamicConstant v p) = expr_as (expr_kind.rolls-DynamicConstant v p) (expr_of-DynamicConstant v p) (dynamic_constant_case v p)
expr_rolled (open_one.BoolConstant b p) = expr_as (expr_kind.rolls-BoolConstant b p) (expr_of-BoolConstant b p) (bool_constant_case b p)
expr_rolled (open_one.IntegerConstant n p) = expr_as (expr_kind.rolls-IntegerConstant n p) (expr_of-IntegerConstant n p) (integer_constant_case n p)
expr_rolled (open_one.FloatConstant x p) = expr_as (expr_kind.rolls-FloatConstant x p) (expr_of-FloatConstant x p) (float_constant_case x p)
expr_rolled (open_one.CharConstant c p) = expr_as (expr_kind.rolls-CharConstant c p) (expr_of-CharConstant c p) (char_constant_case c p)
expr_rolled (open_one.StringConstant t p) = expr_as (expr_kind.rolls-StringConstant t p) (expr_of-StringConstant t p) (string_constant_case t p)
expr_rolled (open_one.InterpolatedString xs p) = expr_as (expr_kind.rolls-InterpolatedString xs p) (expr_of-InterpolatedString xs p) (interpolated_string_case xs p)
expr_rolled (open_one.Array xs p) = expr_as (expr_kind.rolls-Array xs p) (expr_of-Array xs p) (array_case xs p)
expr_rolled (open_one.Map m p) = expr_as (expr_kind.rolls-Map m p) (expr_of-Map m p) (map_case m p)
expr_rolled (open_one.Unit p) = expr_as (expr_kind.rolls-Unit p) (expr_of-Unit p) (unit_case p)
expr_rolled (open_one.Variable x short p) = expr_as (expr_kind.rolls-Variable x short p) (expr_of-Variable x short p) (variable_case x short p)
expr_rolled (open_one.ThisPtr p) = expr_as (expr_kind.rolls-ThisPtr p) (expr_of-ThisPtr p) (this_ptr_case p)
expr_rolled (open_one.Property x p) = expr_as (expr_kind.rolls-Property x p) (expr_of-Property x p) (property_case x p)
expr_rolled (open_one.MethodCall c p) = expr_as (expr_kind.rolls-MethodCall c p) (expr_of-MethodCall c p) (method_call_case c p)
expr_rolled (open_one.Stmt b) = expr_as (expr_kind.rolls-Stmt b) (expr_of-Stmt b) (braces_case b)
expr_rolled (open_one.Expr::FnCall c p) = expr_as (expr_kind.rolls-FnCall c p) (expr_of-FnCall c p) (call_case c p)
expr_rolled (open_one.Dot x k p) = expr_as (expr_kind.rolls-Dot x k p) (expr_of-Dot x k p) (dot_case x k p)
expr_rolled (open_one.Index x k p) = expr_as (expr_kind.rolls-Index x k p) (expr_of-Index x k p) (index_case x k p)
expr_rolled (open_one.And xs p) = expr_as (expr_kind.rolls-And xs p) (expr_of-And xs p) (and_case xs p)
expr_rolled (open_one.Or xs p) = expr_as (expr_kind.rolls-Or xs p) (expr_of-Or xs p) (or_case xs p)
expr_rolled (open_one.Coalesce xs p) = expr_as (expr_kind.rolls-Coalesce xs p) (expr_of-Coalesce xs p) (coalesce_case xs p)

pub expr_cases : (x : declared_expr.Expr) → ExprCase x (expr_of x)
expr_cases x = subst (λ y. ExprCase y (expr_of y)) (views.roll-out-Expr x) (expr_rolled (views.out-Expr x))

-- a statement, with the tree that it stands for
pub data StmtCase : declared_stmt.Stmt → Stmt → Type 0 where
  noop_case : (p : Position) → StmtCase (stmt_kind.Noop p) Noop
  if_case : (x : FlowControl) (p : Position) → StmtCase (stmt_kind.If x p) (If (expr_of x.expr) (stmts_of x.body.block) (stmts_of x.branch.block))
  switch_case : (x : SwitchBlock) (p : Position) → StmtCase (stmt_kind.Switch x p) (Switch (expr_of (subject_of x)) (arms_of (expressions_of (cases_of x))) (table_of (cases_of x)))
  while_case : (x : FlowControl) (p : Position) → StmtCase (stmt_kind.While x p) (While (expr_of x.expr) (stmts_of x.body.block))
  do_case : (x : FlowControl) (k : ASTFlags) (p : Position) → StmtCase (stmt_kind.Do x k p) (Do (is_negated k) (is_exported k) (expr_of x.expr) (stmts_of x.body.block))
  for_case : (x : Ident × Option Ident × FlowControl) (p : Position) → StmtCase (stmt_kind.For x p) (For x.0.name (counter_of x.1) (expr_of x.2.expr) (stmts_of x.2.body.block))
  var_case : (x : Ident × declared_expr.Expr × Option NonZeroUsize) (k : ASTFlags) (p : Position) → StmtCase (stmt_kind.Var x k p) (Var (is_const k) (is_exported k) x.0.name (expr_of x.1))
  assignment_case : (x : OpAssignment × BinaryExpr) → StmtCase (stmt_kind.Assignment x) (Assignment (operator_of x.0.op) (expr_of x.1.lhs) (expr_of x.1.rhs))
  call_statement_case : (c : FnCallExpr) (p : Position) → StmtCase (stmt_kind.FnCall c p) (FnCallStmt (callee_of c) (exprs_of c.args))
  block_case : (b : StmtBlock) → StmtCase (stmt_kind.Block b) (Block (stmts_of b.block))
  try_catch_case : (x : FlowControl) (p : Position) → StmtCase (stmt_kind.TryCatch x p) (TryCatch (expr_of x.expr) (stmts_of x.body.block) (stmts_of x.branch.block))
  expression_case : (e : declared_expr.Expr) → StmtCase (stmt_kind.Expr e) (ExprStmt (expr_of e))
  break_loop_case : (e : Option declared_expr.Expr) (k : ASTFlags) (p : Position) → StmtCase (stmt_kind.BreakLoop e k p) (BreakLoop (breaks k) (is_exported k) (maybe_of e))
  return_case : (e : Option declared_expr.Expr) (k : ASTFlags) (p : Position) → StmtCase (stmt_kind.Return e k p) (Return (breaks k) (is_exported k) (maybe_of e))
  import_case : (x : declared_expr.Expr × Ident) (p : Position) → StmtCase (stmt_kind.Import x p) (Import (expr_of x.0) x.1.name)
  export_case : (x : Ident × Ident) (p : Position) → StmtCase (stmt_kind.Export x p) (Export x.0.name x.1.name)
  share_case : (xs : List (Ident × Option NonZeroUsize)) → StmtCase (stmt_kind.Share xs) (Share (shared_names xs))

stmt_as : {x y : declared_stmt.Stmt} {t : Stmt} → x ≡ y → stmt_of y ≡ t → StmtCase y t → StmtCase x (stmt_of x)
stmt_as {y = y} i j c = subst (λ z. StmtCase z (stmt_of z)) (sym i) (subst (StmtCase y) (sym j) c)

stmt_rolled : (x : open_one.Stmt-F declared_expr.Expr declared_stmt.Stmt StmtBlock BinaryExpr FnCallExpr FlowControl SwitchBlock SwitchCasesCollection) → StmtCase (views.roll-Stmt x) (stmt_of (views.roll-Stmt x))
stmt_rolled (open_one.Noop p) = stmt_as (stmt_kind.rolls-Noop p) (stmt_of-Noop p) (noop_case p)
stmt_rolled (open_one.If x p) = stmt_as (stmt_kind.rolls-If x p) (stmt_of-If x p) (if_case x p)
stmt_rolled (open_one.Switch x p) = stmt_as (stmt_kind.rolls-Switch x p) (stmt_of-Switch x p) (switch_case x p)
stmt_rolled (open_one.While x p) = stmt_as (stmt_kind.rolls-While x p) (stmt_of-While x p) (while_case x p)
stmt_rolled (open_one.Do x k p) = stmt_as (stmt_kind.rolls-Do x k p) (stmt_of-Do x k p) (do_case x k p)
stmt_rolled (open_one.For x p) = stmt_as (stmt_kind.rolls-For x p) (stmt_of-For x p) (for_case x p)
stmt_rolled (open_one.Var x k p) = stmt_as (stmt_kind.rolls-Var x k p) (stmt_of-Var x k p) (var_case x k p)
stmt_rolled (open_one.Assignment x) = stmt_as (stmt_kind.rolls-Assignment x) (stmt_of-Assignment x) (assignment_case x)
stmt_rolled (open_one.Stmt::FnCall c p) = stmt_as (stmt_kind.rolls-FnCall c p) (stmt_of-FnCall c p) (call_statement_case c p)
stmt_rolled (open_one.Block b) = stmt_as (stmt_kind.rolls-Block b) (stmt_of-Block b) (block_case b)
stmt_rolled (open_one.TryCatch x p) = stmt_as (stmt_kind.rolls-TryCatch x p) (stmt_of-TryCatch x p) (try_catch_case x p)
stmt_rolled (open_one.Expr e) = stmt_as (stmt_kind.rolls-Expr e) (stmt_of-Expr e) (expression_case e)
stmt_rolled (open_one.BreakLoop e k p) = stmt_as (stmt_kind.rolls-BreakLoop e k p) (stmt_of-BreakLoop e k p) (break_loop_case e k p)
stmt_rolled (open_one.Return e k p) = stmt_as (stmt_kind.rolls-Return e k p) (stmt_of-Return e k p) (return_case e k p)
stmt_rolled (open_one.Import x p) = stmt_as (stmt_kind.rolls-Import x p) (stmt_of-Import x p) (import_case x p)
stmt_rolled (open_one.Export x p) = stmt_as (stmt_kind.rolls-Export x p) (stmt_of-Export x p) (export_case x p)
stmt_rolled (open_one.Share xs) = stmt_as (stmt_kind.rolls-Share xs) (stmt_of-Share xs) (share_case xs)

pub stmt_cases : (x : declared_stmt.Stmt) → StmtCase x (stmt_of x)
stmt_cases x = subst (λ y. StmtCase y (stmt_of y)) (views.roll-out-Stmt x) (stmt_rolled (views.out-Stmt x))
