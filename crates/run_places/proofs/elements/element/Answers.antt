use Rattle.std.proofs.Common.{SFits, w64, ap, sym, ◌∙◌}
use Rattle.std.proofs.lemmas.Int.{to_z-of_z}
use Rattle.std.specs.Option.{option_map}
use Rattle.rhai_base.specs.Reading.{value_of}
use Rattle.run_places.proofs.Parts.{get_is, element_some}
use Rattle.run_places.proofs.elements.element.Goals as goal

pub returns : goal.returns
returns c =
    let fits : SFits w64 c.args.index = c.ranges.index in
    let placed = simp to_z-of_z at c.index_in.ensures in
    ap (option_map value_of) (get_is c.args.items.now c.in_ok-place.place c.get.result c.get.ensures.lookup) ∙ sym (element_some c.args.items.now c.args.index c.in_ok-place.place (sym placed ∙ c.in_ok-place.was))
