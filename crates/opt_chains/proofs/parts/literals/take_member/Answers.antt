use Rattle.std.proofs.Common.{ap, sym, ◌∙◌}
use Rattle.ast_types.specs.Reading.{pairs_of, expr_of, expr_of-Unit}
use Rattle.opt_chains.specs.declared.parts.literals.Found.{Found}
use Rattle.opt_chains.specs.Literals.{found_member}
use Rattle.opt_chains.proofs.Members.{member_taken, no_member_taken}
use Rattle.opt_chains.proofs.parts.literals.take_member.Goals as goal

pub returns-in-Some : goal.returns-in-Some
returns-in-Some c = ap expr_of c.take.ensures.taken ∙ member_taken c.args.members.now c.in-At.place c.in-Some.member.now c.in-Some.ensures.value ∙ ap (λ (f : Found). found_member (pairs_of c.args.members.now) f) (sym c.in-At.is)

pub returns-in-None : goal.returns-in-None
returns-in-None c = expr_of-Unit _ ∙ no_member_taken c.args.members.now c.in-At.place c.in-None.ensures.value ∙ ap (λ (f : Found). found_member (pairs_of c.args.members.now) f) (sym c.in-At.is)
