use Rattle.std.proofs.Common.{ap, sym, ◌∙◌}
use Rattle.theory_meaning.specs.Queries.{is_unit}
use Rattle.ast_types.specs.Reading.{exprs_of}
use Rattle.opt_chains.specs.declared.parts.literals.Found.{Found}
use Rattle.opt_chains.specs.Literals.{found_item}
use Rattle.opt_chains.proofs.Members.{item_seen, none_seen}
use Rattle.opt_chains.proofs.parts.literals.is_unit_item.Goals as goal

pub returns-in-Some : goal.returns-in-Some
returns-in-Some c = c.is_unit.ensures ∙ ap is_unit (item_seen c.args.items.now c.in-At.place c.get.result c.in-Some.item c.get.ensures.lookup c.in-Some.is) ∙ ap (λ (f : Found). is_unit (found_item (exprs_of c.args.items.now) f)) (sym c.in-At.is)

pub returns-in-None : goal.returns-in-None
returns-in-None c = ap is_unit (none_seen c.args.items.now c.in-At.place c.get.result c.get.ensures.lookup c.in-None.is) ∙ ap (λ (f : Found). is_unit (found_item (exprs_of c.args.items.now) f)) (sym c.in-At.is)
