use Rattle.std.proofs.Common.{Some, sym, ap, ◌∙◌}
use Rattle.theory_meaning.specs.Shape.{has_token}
use Rattle.theory_meaning.specs.Tree.{count_exprs}
use Rattle.ast_types.specs.Reading.{callee_of, exprs_of, mark_of}
use Rattle.rhai_ast.proofs.Operations.{count_exprs_of}
use Rattle.rhai_ast.proofs.faults.shape.is_formed.Goals as goal

pub returns-in-Some : goal.returns-in-Some
returns-in-Some c =
    let call = c.args.call.now in
    let callee = callee_of call in
    c.is_call_of.ensures
    ∙ ap (λ n. has_token callee n (mark_of (Some c.in-Some.op))) (sym (count_exprs_of call.args))
    ∙ ap (λ t. has_token callee (count_exprs (exprs_of call.args)) (mark_of t)) (sym c.in-Some.is)
