use Rattle.std.proofs.Common.{sym, ap, ◌∙◌, subst}
use Rattle.theory_meaning.specs.Faults.{ChainShape, call_fault, expr_fault, is_member_role, map_fault, unless, ◌then◌}
use Rattle.theory_meaning.specs.Shape.{keys}
use Rattle.theory_meaning.specs.Tree.{count_exprs}
use Rattle.ast_types.specs.Reading.{callee_of, expr_of, expr_of-FnCall, expr_of-Map, expr_of-MethodCall, exprs_of, keys_of, pairs_of}
use Rattle.rhai_ast.specs.Places.{around_of}
use Rattle.rhai_ast.specs.Refusals.{Finds}
use Rattle.rhai_ast.proofs.faults.alone.check_expr.Goals as goal

pub returns-in-FnCall : goal.returns-in-FnCall
returns-in-FnCall c =
    let result = c.check_call.result in
    subst (λ e. Finds (expr_fault (around_of c.args.around) e) result) (sym (ap expr_of c.in-FnCall.is ∙ expr_of-FnCall c.in-FnCall.call c.in-FnCall.field-1))
    (subst (λ k. Finds (call_fault (callee_of k) (count_exprs (exprs_of k.args))) result) c.get-in-FnCall.ensures c.check_call.ensures)

pub returns-in-MethodCall : goal.returns-in-MethodCall
returns-in-MethodCall c =
    let result = c.check_method.result in
    let around = around_of c.args.around in
    subst (λ e. Finds (expr_fault around e) result) (sym (ap expr_of c.in-MethodCall.is ∙ expr_of-MethodCall c.in-MethodCall.call c.in-MethodCall.field-1))
    (subst (λ k. Finds (unless (is_member_role around.role) ChainShape then call_fault (callee_of k) (count_exprs (exprs_of k.args))) result) c.get-in-MethodCall.ensures c.check_method.ensures)

pub returns-in-Map : goal.returns-in-Map
returns-in-Map c =
    let result = c.test_keys.result in
    subst (λ e. Finds (expr_fault (around_of c.args.around) e) result) (sym (ap expr_of c.in-Map.is ∙ expr_of-Map c.in-Map.map c.in-Map.field-1))
    (subst (λ m. Finds (map_fault (keys (pairs_of m.0)) (keys_of m.1)) result) c.get-literal.ensures
    (subst (λ ms. Finds (map_fault (keys (pairs_of ms)) (keys_of c.get-literal.result.now.1)) result) c.as_slice.ensures c.test_keys.ensures))
