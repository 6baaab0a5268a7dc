use Rattle.std.proofs.Common.{ap, sym, ◌∙◌}
use Rattle.theory_meaning.specs.Queries.{is_unit}
use Rattle.ast_types.specs.Reading.{pairs_of}
use Rattle.opt_chains.specs.declared.parts.literals.Found.{Found}
use Rattle.opt_chains.specs.Literals.{found_member}
use Rattle.opt_chains.proofs.Members.{member_seen, no_member_seen}
use Rattle.opt_chains.proofs.parts.literals.is_unit_member.Goals as goal

pub returns-in-Some : goal.returns-in-Some
returns-in-Some c = c.is_unit.ensures ∙ ap is_unit (member_seen c.args.members.now c.in-At.place c.get.result c.in-Some.member c.get.ensures.lookup c.in-Some.is) ∙ ap (λ (f : Found). is_unit (found_member (pairs_of c.args.members.now) f)) (sym c.in-At.is)

pub returns-in-None : goal.returns-in-None
returns-in-None c = ap is_unit (no_member_seen c.args.members.now c.in-At.place c.get.result c.get.ensures.lookup c.in-None.is) ∙ ap (λ (f : Found). is_unit (found_member (pairs_of c.args.members.now) f)) (sym c.in-At.is)
