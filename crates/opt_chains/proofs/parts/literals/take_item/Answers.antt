use Rattle.std.proofs.Common.{ap, sym, ◌∙◌}
use Rattle.ast_types.specs.Reading.{exprs_of, expr_of, expr_of-Unit}
use Rattle.opt_chains.specs.declared.parts.literals.Found.{Found}
use Rattle.opt_chains.specs.Literals.{found_item}
use Rattle.opt_chains.proofs.Members.{item_taken, none_taken}
use Rattle.opt_chains.proofs.parts.literals.take_item.Goals as goal

pub returns-in-Some : goal.returns-in-Some
returns-in-Some c = ap expr_of c.take.ensures.taken ∙ item_taken c.args.items.now c.in-At.place c.in-Some.item.now c.in-Some.ensures.value ∙ ap (λ (f : Found). found_item (exprs_of c.args.items.now) f) (sym c.in-At.is)

pub returns-in-None : goal.returns-in-None
returns-in-None c = expr_of-Unit _ ∙ none_taken c.args.items.now c.in-At.place c.in-None.ensures.value ∙ ap (λ (f : Found). found_item (exprs_of c.args.items.now) f) (sym c.in-At.is)
