use Rattle.ast_types.proofs.Cases.{expr_cases}
use Rattle.ast_types.specs.Reading.{pairs_of}
use Rattle.opt_chains.proofs.OtherParts.{no_property_for}
use Rattle.opt_chains.proofs.parts.literals.property_of_map.Goals as goal

pub returns-in_default : goal.returns-in_default
returns-in_default c = no_property_for (pairs_of c.args.members.now) (expr_cases c.args.member.now) c.in_default.not-Property
