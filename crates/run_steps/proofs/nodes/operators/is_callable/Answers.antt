use Rattle.std.proofs.Common.{◌≡◌, true, false, not, ◌&&◌, length, ap, sym, ◌∙◌}
use Rattle.ast_types.specs.Reading.{callee_of}
use Rattle.theory_meaning.specs.Shape.{has_token, is_barred}
use Rattle.run_steps.proofs.Callees.{count_exprs_of}
use Rattle.run_steps.proofs.nodes.operators.is_callable.Goals as goal

pub returns-then-is_formed : goal.returns-then-is_formed
returns-then-is_formed c =
    let k = callee_of c.args.call.now in
    let formed : has_token k (length c.args.call.now.args) k.token ≡ true = ap (λ n. has_token k n k.token) (sym (count_exprs_of c.args.call.now.args)) ∙ sym c.is_formed.ensures ∙ c.if-is_formed.true in
    ap not c.is_barred_call.ensures ∙ sym (ap (λ b. b && not (is_barred k)) formed)

pub returns-else-is_formed : goal.returns-else-is_formed
returns-else-is_formed c =
    let k = callee_of c.args.call.now in
    let not_formed : has_token k (length c.args.call.now.args) k.token ≡ false = ap (λ n. has_token k n k.token) (sym (count_exprs_of c.args.call.now.args)) ∙ sym c.is_formed.ensures ∙ c.if-is_formed.false in
    c.if-is_formed.false ∙ sym (ap (λ b. b && not (is_barred k)) not_formed)
