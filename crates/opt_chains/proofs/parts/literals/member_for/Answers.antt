use Rattle.std.proofs.Common.{sym, ◌∙◌, ap}
use Rattle.rhai_base.specs.Value.{same_text}
use Rattle.opt_chains.proofs.Members.{one_less, member_found}
use Rattle.opt_chains.proofs.parts.literals.member_for.Goals as goal

pub returns-then-eq : goal.returns-then-eq
returns-then-eq c =
    member_found c.args.members.now c.loop-member.left.now c.in-Some.earlier.now c.in-Some.member.now c.args.key.now c.loop-member.invariant c.in-Some.ensures.cases.0
    (ap (λ t. same_text t c.args.key.now) (sym c.as_str.ensures) ∙ sym c.if-eq.ensures)

pub loop-member-preserved : goal.loop-member-preserved
loop-member-preserved c =
    one_less c.args.members.now c.loop-member.left.now c.in-Some.earlier.now c.in-Some.member.now c.args.key.now c.loop-member.invariant c.in-Some.ensures.cases.0
    (ap (λ t. same_text t c.args.key.now) (sym c.as_str.ensures) ∙ sym c.if-eq.ensures)
