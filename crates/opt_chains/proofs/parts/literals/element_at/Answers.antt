use Rattle.std.proofs.Common.{SFits, w64, sym, ◌∙◌}
use Rattle.std.proofs.lemmas.Int.{to_z-of_z}
use Rattle.opt_chains.proofs.Members.{element_found, element_missing}
use Rattle.opt_chains.proofs.parts.literals.element_at.Goals as goal

pub returns-in-Some : goal.returns-in-Some
returns-in-Some c =
    let index : SFits w64 c.args.index = c.ranges.index in
    let placed = simp to_z-of_z at c.place_in.ensures.place in
    element_found c.args.items.now c.args.index c.in-Some.place (sym c.in-Some.is ∙ placed) c.in-Some.ensures.below

pub returns-in-None : goal.returns-in-None
returns-in-None c =
    let index : SFits w64 c.args.index = c.ranges.index in
    let placed = simp to_z-of_z at c.place_in.ensures.place in
    element_missing c.args.items.now c.args.index (sym c.in-None.is ∙ placed)
