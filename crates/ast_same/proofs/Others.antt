-- Nodes of other kinds are not alike.
use Rattle.std.proofs.Common.{◌≡◌, ℕ, ℤ, Bool, false, List, Option, refl}
use Rattle.base_tokens.specs.declared.position.Position.{Position}
use Rattle.rhai_base.specs.declared.float_wrapper.FloatWrapper.{FloatWrapper}
use Rattle.rhai_base.specs.Value.{Text, Value}
use Rattle.rhai_base.specs.Operators.{Operator}
use Rattle.ast_types.specs.declared.expr.Expr as declared_expr
use Rattle.ast_types.specs.declared.expr.Expr.TheVariants as expr_kind
use Rattle.ast_types.specs.declared.stmt.Stmt as declared_stmt
use Rattle.theory_meaning.specs.Tree.{Callee, ChainFlags, PropertyNames, SwitchTable, Exprs, Pairs, MaybeExpr, Arms, Stmts, Expr, Stmt, DynamicConstant, BoolConstant, IntegerConstant, FloatConstant, CharConstant, StringConstant, InterpolatedString, ArrayOf, MapOf, UnitConstant, Variable, ThisPtr, Property, MethodCall, BlockExpr, FnCall, Dot, Index, And, Or, Coalesce, Noop, If, Switch, While, Do, For, Var, Assignment, FnCallStmt, Block, TryCatch, ExprStmt, BreakLoop, Return, Import, Export, Share}
use Rattle.ast_types.proofs.Cases.{ExprCase, StmtCase, dynamic_constant_case, bool_constant_case, integer_constant_case, float_constant_case, char_constant_case, string_constant_case, interpolated_string_case, array_case, map_case, unit_case, variable_case, this_ptr_case, property_case, method_call_case, braces_case, call_case, dot_case, index_case, and_case, or_case, coalesce_case, noop_case, if_case, switch_case, while_case, do_case, for_case, var_case, assignment_case, call_statement_case, block_case, try_catch_case, expression_case, break_loop_case, return_case, import_case, export_case, share_case}
use Rattle.ast_same.specs.Alike.{alike_expr, alike_stmt}
use Rattle.ast_types.proofs.OtherKinds.{NoDynamic, NoBool, NoInteger, NoString, NoText, NoArray, NoMap, NoUnit, NoVariable, NoThis, NoProperty, NoMethod, NoBraces, NoCall, NoDot, NoIndex, NoAnd, NoOr, NoCoalesce, NoNoop, NoIf, NoSwitch, NoWhile, NoDo, NoFor, NoVar, NoAssignment, NoCallStatement, NoBlock, NoTry, NoExpression, NoBreak, NoReturn, NoImport, NoExport, NoShare}

-- ---- expressions

pub other_dynamic : {d : declared_expr.Expr} {e : Expr} → ExprCase d e → NoDynamic d → (a : Value) → false ≡ alike_expr (DynamicConstant a) e
other_dynamic (dynamic_constant_case v p) h a = absurd (h v p refl)
other_dynamic _ h a = refl

pub other_bool : {d : declared_expr.Expr} {e : Expr} → ExprCase d e → NoBool d → (a : Bool) → false ≡ alike_expr (BoolConstant a) e
other_bool (bool_constant_case b p) h a = absurd (h b p refl)
other_bool _ h a = refl

pub other_integer : {d : declared_expr.Expr} {e : Expr} → ExprCase d e → NoInteger d → (a : ℤ) → false ≡ alike_expr (IntegerConstant a) e
other_integer (integer_constant_case n p) h a = absurd (h n p refl)
other_integer _ h a = refl

pub other_float : {d : declared_expr.Expr} {e : Expr} → ExprCase d e → ((x : FloatWrapper) (p : Position) → d ≡ expr_kind.FloatConstant x p → ⊥) → (a : ℕ) → false ≡ alike_expr (FloatConstant a) e
other_float (float_constant_case x p) h a = absurd (h x p refl)
other_float _ h a = refl

pub other_char : {d : declared_expr.Expr} {e : Expr} → ExprCase d e → ((n : ℕ) (p : Position) → d ≡ expr_kind.CharConstant n p → ⊥) → (a : ℕ) → false ≡ alike_expr (CharConstant a) e
other_char (char_constant_case n p) h a = absurd (h n p refl)
other_char _ h a = refl

pub other_string : {d : declared_expr.Expr} {e : Expr} → ExprCase d e → NoString d → (a : Text) → false ≡ alike_expr (StringConstant a) e
other_string (string_constant_case t p) h a = absurd (h t p refl)
other_string _ h a = refl

pub other_interpolated : {d : declared_expr.Expr} {e : Expr} → ExprCase d e → NoText d → (a : Exprs) → false ≡ alike_expr (InterpolatedString a) e
other_interpolated (interpolated_string_case xs p) h a = absurd (h xs p refl)
other_interpolated _ h a = refl

pub other_array : {d : declared_expr.Expr} {e : Expr} → ExprCase d e → NoArray d → (a : Exprs) → false ≡ alike_expr (ArrayOf a) e
other_array (array_case xs p) h a = absurd (h xs p refl)
other_array _ h a = refl

pub other_map : {d : declared_expr.Expr} {e : Expr} → ExprCase d e → NoMap d → (a : Pairs) (k : List Text) → false ≡ alike_expr (MapOf a k) e
other_map (map_case m p) h a k = absurd (h m p refl)
other_map _ h a k = refl

pub other_unit : {d : declared_expr.Expr} {e : Expr} → ExprCase d e → NoUnit d → false ≡ alike_expr UnitConstant e
other_unit (unit_case p) h = absurd (h p refl)
other_unit _ h = refl

pub other_variable : {d : declared_expr.Expr} {e : Expr} → ExprCase d e → NoVariable d → (m : List Text) (a : Text) → false ≡ alike_expr (Variable m a) e
other_variable (variable_case x short p) h m a = absurd (h x short p refl)
other_variable _ h m a = refl

pub other_this : {d : declared_expr.Expr} {e : Expr} → ExprCase d e → NoThis d → false ≡ alike_expr ThisPtr e
other_this (this_ptr_case p) h = absurd (h p refl)
other_this _ h = refl

pub other_property : {d : declared_expr.Expr} {e : Expr} → ExprCase d e → NoProperty d → (a : PropertyNames) → false ≡ alike_expr (Property a) e
other_property (property_case x p) h a = absurd (h x p refl)
other_property _ h a = refl

pub other_method_call : {d : declared_expr.Expr} {e : Expr} → ExprCase d e → NoMethod d → (g : Callee) (a : Exprs) → false ≡ alike_expr (MethodCall g a) e
other_method_call (method_call_case f p) h g a = absurd (h f p refl)
other_method_call _ h g a = refl

pub other_block_expr : {d : declared_expr.Expr} {e : Expr} → ExprCase d e → NoBraces d → (a : Stmts) → false ≡ alike_expr (BlockExpr a) e
other_block_expr (braces_case b) h a = absurd (h b refl)
other_block_expr _ h a = refl

pub other_fn_call : {d : declared_expr.Expr} {e : Expr} → ExprCase d e → NoCall d → (g : Callee) (a : Exprs) → false ≡ alike_expr (FnCall g a) e
other_fn_call (call_case f p) h g a = absurd (h f p refl)
other_fn_call _ h g a = refl

pub other_dot : {d : declared_expr.Expr} {e : Expr} → ExprCase d e → NoDot d → (l : ChainFlags) (a : Expr) (b : Expr) → false ≡ alike_expr (Dot l a b) e
other_dot (dot_case x k p) h l a b = absurd (h x k p refl)
other_dot _ h l a b = refl

pub other_index : {d : declared_expr.Expr} {e : Expr} → ExprCase d e → NoIndex d → (l : ChainFlags) (a : Expr) (b : Expr) → false ≡ alike_expr (Index l a b) e
other_index (index_case x k p) h l a b = absurd (h x k p refl)
other_index _ h l a b = refl

pub other_and : {d : declared_expr.Expr} {e : Expr} → ExprCase d e → NoAnd d → (a : Exprs) → false ≡ alike_expr (And a) e
other_and (and_case xs p) h a = absurd (h xs p refl)
other_and _ h a = refl

pub other_or : {d : declared_expr.Expr} {e : Expr} → ExprCase d e → NoOr d → (a : Exprs) → false ≡ alike_expr (Or a) e
other_or (or_case xs p) h a = absurd (h xs p refl)
other_or _ h a = refl

pub other_coalesce : {d : declared_expr.Expr} {e : Expr} → ExprCase d e → NoCoalesce d → (a : Exprs) → false ≡ alike_expr (Coalesce a) e
other_coalesce (coalesce_case xs p) h a = absurd (h xs p refl)
other_coalesce _ h a = refl

-- ---- statements

pub other_noop : {d : declared_stmt.Stmt} {e : Stmt} → StmtCase d e → NoNoop d → false ≡ alike_stmt Noop e
other_noop (noop_case p) h = absurd (h p refl)
other_noop _ h = refl

pub other_if : {d : declared_stmt.Stmt} {e : Stmt} → StmtCase d e → NoIf d → (a : Expr) (ss : Stmts) (ts : Stmts) → false ≡ alike_stmt (If a ss ts) e
other_if (if_case x p) h a ss ts = absurd (h x p refl)
other_if _ h a ss ts = refl

pub other_switch : {d : declared_stmt.Stmt} {e : Stmt} → StmtCase d e → NoSwitch d → (a : Expr) (as' : Arms) (t : SwitchTable) → false ≡ alike_stmt (Switch a as' t) e
other_switch (switch_case x p) h a as' t = absurd (h x p refl)
other_switch _ h a as' t = refl

pub other_while : {d : declared_stmt.Stmt} {e : Stmt} → StmtCase d e → NoWhile d → (a : Expr) (ss : Stmts) → false ≡ alike_stmt (While a ss) e
other_while (while_case x p) h a ss = absurd (h x p refl)
other_while _ h a ss = refl

pub other_do : {d : declared_stmt.Stmt} {e : Stmt} → StmtCase d e → NoDo d → (n : Bool) (m : Bool) (a : Expr) (ss : Stmts) → false ≡ alike_stmt (Do n m a ss) e
other_do (do_case x k p) h n m a ss = absurd (h x k p refl)
other_do _ h n m a ss = refl

pub other_for : {d : declared_stmt.Stmt} {e : Stmt} → StmtCase d e → NoFor d → (y : Text) (i : Option Text) (a : Expr) (ss : Stmts) → false ≡ alike_stmt (For y i a ss) e
other_for (for_case x p) h y i a ss = absurd (h x p refl)
other_for _ h y i a ss = refl

pub other_var : {d : declared_stmt.Stmt} {e : Stmt} → StmtCase d e → NoVar d → (n : Bool) (m : Bool) (y : Text) (a : Expr) → false ≡ alike_stmt (Var n m y a) e
other_var (var_case x k p) h n m y a = absurd (h x k p refl)
other_var _ h n m y a = refl

pub other_assignment : {d : declared_stmt.Stmt} {e : Stmt} → StmtCase d e → NoAssignment d → (o : Option Operator) (a : Expr) (b : Expr) → false ≡ alike_stmt (Assignment o a b) e
other_assignment (assignment_case x) h o a b = absurd (h x refl)
other_assignment _ h o a b = refl

pub other_called : {d : declared_stmt.Stmt} {e : Stmt} → StmtCase d e → NoCallStatement d → (g : Callee) (a : Exprs) → false ≡ alike_stmt (FnCallStmt g a) e
other_called (call_statement_case f p) h g a = absurd (h f p refl)
other_called _ h g a = refl

pub other_block_stmt : {d : declared_stmt.Stmt} {e : Stmt} → StmtCase d e → NoBlock d → (a : Stmts) → false ≡ alike_stmt (Block a) e
other_block_stmt (block_case b) h a = absurd (h b refl)
other_block_stmt _ h a = refl

pub other_try : {d : declared_stmt.Stmt} {e : Stmt} → StmtCase d e → NoTry d → (a : Expr) (ss : Stmts) (ts : Stmts) → false ≡ alike_stmt (TryCatch a ss ts) e
other_try (try_catch_case x p) h a ss ts = absurd (h x p refl)
other_try _ h a ss ts = refl

pub other_expr_stmt : {d : declared_stmt.Stmt} {e : Stmt} → StmtCase d e → NoExpression d → (a : Expr) → false ≡ alike_stmt (ExprStmt a) e
other_expr_stmt (expression_case x) h a = absurd (h x refl)
other_expr_stmt _ h a = refl

pub other_break : {d : declared_stmt.Stmt} {e : Stmt} → StmtCase d e → NoBreak d → (n : Bool) (m : Bool) (a : MaybeExpr) → false ≡ alike_stmt (BreakLoop n m a) e
other_break (break_loop_case x k p) h n m a = absurd (h x k p refl)
other_break _ h n m a = refl

pub other_return : {d : declared_stmt.Stmt} {e : Stmt} → StmtCase d e → NoReturn d → (n : Bool) (m : Bool) (a : MaybeExpr) → false ≡ alike_stmt (Return n m a) e
other_return (return_case x k p) h n m a = absurd (h x k p refl)
other_return _ h n m a = refl

pub other_import : {d : declared_stmt.Stmt} {e : Stmt} → StmtCase d e → NoImport d → (a : Expr) (y : Text) → false ≡ alike_stmt (Import a y) e
other_import (import_case x p) h a y = absurd (h x p refl)
other_import _ h a y = refl

pub other_export : {d : declared_stmt.Stmt} {e : Stmt} → StmtCase d e → NoExport d → (y : Text) (z : Text) → false ≡ alike_stmt (Export y z) e
other_export (export_case x p) h y z = absurd (h x p refl)
other_export _ h y z = refl

pub other_share : {d : declared_stmt.Stmt} {e : Stmt} → StmtCase d e → NoShare d → (a : List Text) → false ≡ alike_stmt (Share a) e
other_share (share_case xs) h a = absurd (h xs refl)
other_share _ h a = refl
