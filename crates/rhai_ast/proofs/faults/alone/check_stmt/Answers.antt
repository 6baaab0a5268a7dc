use Rattle.std.proofs.Common.{sym, ap, ◌∙◌, subst}
use Rattle.theory_meaning.specs.Faults.{call_fault, stmt_fault}
use Rattle.theory_meaning.specs.Tree.{count_exprs}
use Rattle.ast_types.specs.Reading.{callee_of, exprs_of, stmt_of, stmt_of-FnCall}
use Rattle.rhai_ast.specs.Places.{around_of}
use Rattle.rhai_ast.specs.Refusals.{Finds}
use Rattle.rhai_ast.proofs.faults.alone.check_stmt.Goals as goal

pub returns-in-FnCall : goal.returns-in-FnCall
returns-in-FnCall c =
    let result = c.check_call.result in
    subst (λ s. Finds (stmt_fault (around_of c.args.around) s) result) (sym (ap stmt_of c.in-FnCall.is ∙ stmt_of-FnCall c.in-FnCall.call c.in-FnCall.field-1))
    (subst (λ k. Finds (call_fault (callee_of k) (count_exprs (exprs_of k.args))) result) c.get-in-FnCall.ensures c.check_call.ensures)
