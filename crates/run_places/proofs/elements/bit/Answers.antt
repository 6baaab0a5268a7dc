use Rattle.std.proofs.Common.{SFits, w64, sym, ◌∙◌}
use Rattle.std.proofs.lemmas.Int.{to_z-of_z}
use Rattle.run_places.proofs.Parts.{bit_some}
use Rattle.run_places.proofs.elements.bit.Goals as goal

pub returns : goal.returns
returns c =
    let fits : SFits w64 c.args.index = c.ranges.index in
    let number_fits : SFits w64 c.args.number = c.ranges.number in
    let placed = simp to_z-of_z at c.index_in.ensures in
    let bits = simp to_z-of_z at c.cast_unsigned-bits.ensures in
    sym (bit_some c.args.number c.args.index c.in_ok-place.place c.cast_unsigned-bits.result (sym placed ∙ c.in_ok-place.was) bits)
