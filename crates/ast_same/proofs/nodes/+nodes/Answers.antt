use Rattle.std.proofs.Common.{◌≡◌, Bool, List, sym, ap, ◌∙◌}
use Rattle.base_tokens.specs.declared.position.Position.{Position}
use Rattle.base_tokens.specs.declared.ident.Ident.{Ident}
use Rattle.rhai_base.specs.declared.dynamic.Dynamic.{Dynamic}
use Rattle.rhai_base.specs.Value.{Text}
use Rattle.ast_types.specs.declared.expr.Expr as declared_expr
use Rattle.ast_types.specs.declared.expr.Expr.TheVariants as expr_kind
use Rattle.theory_meaning.specs.Tree.{Expr, MapOf}
use Rattle.rhai_base.specs.Builtin.{operator_of}
use Rattle.ast_types.specs.Reading.{arms_of, breaks, callee_of, cases_of, chain_flags, counter_of, expr_of, expr_of-Map, expressions_of, exprs_of, is_const, is_exported, is_negated, keys_of, maybe_of, pairs_of, stmts_of, subject_of, table_of}
use Rattle.ast_types.proofs.Cases.{expr_cases, stmt_cases}
use Rattle.ast_same.specs.Alike.{alike_expr}
use Rattle.ast_same.proofs.Items.{arms_ended, exprs_ended, pairs_ended, stmts_ended}
use Rattle.ast_same.proofs.Others.{other_interpolated, other_array, other_map, other_method_call, other_block_expr, other_fn_call, other_dot, other_index, other_and, other_or, other_coalesce, other_if, other_switch, other_while, other_do, other_for, other_var, other_assignment, other_called, other_block_stmt, other_try, other_expr_stmt, other_break, other_return, other_import}
use Rattle.ast_same.proofs.nodes.+nodes.Goals as goal

-- a map whose pairs and template are compared
map_alike : (d : declared_expr.Expr) (m x y : List (Ident × declared_expr.Expr) × List (Text × Dynamic)) (p : Position) (ps : List (Ident × declared_expr.Expr)) (e : Expr) (r : Bool) → d ≡ expr_kind.Map m p
    → x ≡ m → ps ≡ x.0 → y ≡ m → r ≡ alike_expr (MapOf (pairs_of ps) (keys_of y.1)) e → r ≡ alike_expr (expr_of d) e
map_alike d m x y p ps e r is f g h k =
    k ∙ (λ i. alike_expr (MapOf (pairs_of (g i)) (keys_of (h i).1)) e) ∙ (λ i. alike_expr (MapOf (pairs_of (f i).0) (keys_of m.1)) e)
    ∙ ap (λ t. alike_expr t e) (sym (ap expr_of is ∙ expr_of-Map m p))

pub alike_expr-returns-in-Map : goal.alike_expr-returns-in-Map
alike_expr-returns-in-Map t c =
    map_alike c.args.first.now c.in-Map.map c.get-in-Map.result.now c.get-in-Map-2.result.now c.in-Map.field-1 c.as_slice-in-Map.result.now (expr_of c.args.second.now)
    c.is_map.result c.in-Map.is c.get-in-Map.ensures c.as_slice-in-Map.ensures c.get-in-Map-2.ensures c.is_map.ensures

pub is_interpolated-returns-in_default : goal.is_interpolated-returns-in_default
is_interpolated-returns-in_default t c = other_interpolated (expr_cases c.args.second.now) c.in_default.not-InterpolatedString (exprs_of c.args.parts.now)

pub is_array-returns-in_default : goal.is_array-returns-in_default
is_array-returns-in_default t c = other_array (expr_cases c.args.second.now) c.in_default.not-Array (exprs_of c.args.items.now)

pub is_map-returns-in_default : goal.is_map-returns-in_default
is_map-returns-in_default t c = other_map (expr_cases c.args.second.now) c.in_default.not-Map (pairs_of c.args.pairs.now) (keys_of c.args.template.now)

pub is_method_call-returns-in_default : goal.is_method_call-returns-in_default
is_method_call-returns-in_default t c = other_method_call (expr_cases c.args.second.now) c.in_default.not-MethodCall (callee_of c.args.call.now) (exprs_of c.args.call.now.args)

pub is_block_expr-returns-in_default : goal.is_block_expr-returns-in_default
is_block_expr-returns-in_default t c = other_block_expr (expr_cases c.args.second.now) c.in_default.not-Stmt (stmts_of c.args.block.now.block)

pub is_fn_call-returns-in_default : goal.is_fn_call-returns-in_default
is_fn_call-returns-in_default t c = other_fn_call (expr_cases c.args.second.now) c.in_default.not-FnCall (callee_of c.args.call.now) (exprs_of c.args.call.now.args)

pub is_dot-returns-in_default : goal.is_dot-returns-in_default
is_dot-returns-in_default t c = other_dot (expr_cases c.args.second.now) c.in_default.not-Dot (chain_flags c.args.options) (expr_of c.args.sides.now.lhs) (expr_of c.args.sides.now.rhs)

pub is_index-returns-in_default : goal.is_index-returns-in_default
is_index-returns-in_default t c = other_index (expr_cases c.args.second.now) c.in_default.not-Index (chain_flags c.args.options) (expr_of c.args.sides.now.lhs) (expr_of c.args.sides.now.rhs)

pub is_and-returns-in_default : goal.is_and-returns-in_default
is_and-returns-in_default t c = other_and (expr_cases c.args.second.now) c.in_default.not-And (exprs_of c.args.operands.now)

pub is_or-returns-in_default : goal.is_or-returns-in_default
is_or-returns-in_default t c = other_or (expr_cases c.args.second.now) c.in_default.not-Or (exprs_of c.args.operands.now)

pub is_coalesce-returns-in_default : goal.is_coalesce-returns-in_default
is_coalesce-returns-in_default t c = other_coalesce (expr_cases c.args.second.now) c.in_default.not-Coalesce (exprs_of c.args.operands.now)

pub is_if-returns-in_default : goal.is_if-returns-in_default
is_if-returns-in_default t c = other_if (stmt_cases c.args.second.now) c.in_default.not-If (expr_of c.args.flow.now.expr) (stmts_of c.args.flow.now.body.block) (stmts_of c.args.flow.now.branch.block)

pub is_switch-returns-in_default : goal.is_switch-returns-in_default
is_switch-returns-in_default t c = other_switch (stmt_cases c.args.second.now) c.in_default.not-Switch (expr_of (subject_of c.args.switch.now)) (arms_of (expressions_of (cases_of c.args.switch.now))) (table_of (cases_of c.args.switch.now))

pub is_while-returns-in_default : goal.is_while-returns-in_default
is_while-returns-in_default t c = other_while (stmt_cases c.args.second.now) c.in_default.not-While (expr_of c.args.flow.now.expr) (stmts_of c.args.flow.now.body.block)

pub is_do-returns-in_default : goal.is_do-returns-in_default
is_do-returns-in_default t c = other_do (stmt_cases c.args.second.now) c.in_default.not-Do (is_negated c.args.options) (is_exported c.args.options) (expr_of c.args.flow.now.expr) (stmts_of c.args.flow.now.body.block)

pub is_for-returns-in_default : goal.is_for-returns-in_default
is_for-returns-in_default t c = other_for (stmt_cases c.args.second.now) c.in_default.not-For c.args.parts.now.0.name (counter_of c.args.parts.now.1) (expr_of c.args.parts.now.2.expr) (stmts_of c.args.parts.now.2.body.block)

pub is_var-returns-in_default : goal.is_var-returns-in_default
is_var-returns-in_default t c = other_var (stmt_cases c.args.second.now) c.in_default.not-Var (is_const c.args.options) (is_exported c.args.options) c.args.parts.now.0.name (expr_of c.args.parts.now.1)

pub is_assignment-returns-in_default : goal.is_assignment-returns-in_default
is_assignment-returns-in_default t c = other_assignment (stmt_cases c.args.second.now) c.in_default.not-Assignment (operator_of c.args.parts.now.0.op) (expr_of c.args.parts.now.1.lhs) (expr_of c.args.parts.now.1.rhs)

pub is_called-returns-in_default : goal.is_called-returns-in_default
is_called-returns-in_default t c = other_called (stmt_cases c.args.second.now) c.in_default.not-FnCall (callee_of c.args.call.now) (exprs_of c.args.call.now.args)

pub is_block_stmt-returns-in_default : goal.is_block_stmt-returns-in_default
is_block_stmt-returns-in_default t c = other_block_stmt (stmt_cases c.args.second.now) c.in_default.not-Block (stmts_of c.args.block.now.block)

pub is_try-returns-in_default : goal.is_try-returns-in_default
is_try-returns-in_default t c = other_try (stmt_cases c.args.second.now) c.in_default.not-TryCatch (expr_of c.args.flow.now.expr) (stmts_of c.args.flow.now.body.block) (stmts_of c.args.flow.now.branch.block)

pub is_expr_stmt-returns-in_default : goal.is_expr_stmt-returns-in_default
is_expr_stmt-returns-in_default t c = other_expr_stmt (stmt_cases c.args.second.now) c.in_default.not-Expr (expr_of c.args.expr.now)

pub is_break-returns-in_default : goal.is_break-returns-in_default
is_break-returns-in_default t c = other_break (stmt_cases c.args.second.now) c.in_default.not-BreakLoop (breaks c.args.options) (is_exported c.args.options) (maybe_of c.args.value.now)

pub is_return-returns-in_default : goal.is_return-returns-in_default
is_return-returns-in_default t c = other_return (stmt_cases c.args.second.now) c.in_default.not-Return (breaks c.args.options) (is_exported c.args.options) (maybe_of c.args.value.now)

pub is_import-returns-in_default : goal.is_import-returns-in_default
is_import-returns-in_default t c = other_import (stmt_cases c.args.second.now) c.in_default.not-Import (expr_of c.args.parts.now.0) c.args.parts.now.1.name

pub alike_exprs-returns : goal.alike_exprs-returns
alike_exprs-returns t c = exprs_ended _ _ _ _ _ c.loop-expr-test.false c.loop-expr.invariant c.is_empty.ensures

pub alike_stmts-returns : goal.alike_stmts-returns
alike_stmts-returns t c = stmts_ended _ _ _ _ _ c.loop-statement-test.false c.loop-statement.invariant c.is_empty.ensures

pub alike_pairs-returns : goal.alike_pairs-returns
alike_pairs-returns t c = pairs_ended _ _ _ _ _ c.loop-pair-test.false c.loop-pair.invariant c.is_empty.ensures

pub alike_arms-returns : goal.alike_arms-returns
alike_arms-returns t c = arms_ended _ _ _ _ _ c.loop-arm-test.false c.loop-arm.invariant c.is_empty.ensures
