use Rattle.std.proofs.Common.{SFits, w64, rules}
use Rattle.std.proofs.lemmas.Int.{to_z-of_z}
use Rattle.run_places.proofs.steps.index_value.Goals as goal

pub returns-in-Int : goal.returns-in-Int
returns-in-Int c =
    let fits : SFits w64 c.in-Int.number = search rules in
    let answered = simp to_z-of_z at c.index_bits.ensures in
    rw c.in-Int.is answered
