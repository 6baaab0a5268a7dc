use Rattle.std.proofs.Common.{SFits, w64, rules}
use Rattle.std.proofs.lemmas.Int.{to_z-of_z}
use Rattle.rhai_base.specs.Reading.{kinds}
use Rattle.opt_chains.proofs.parts.answers.bit_at.Goals as goal

pub returns : goal.returns
returns c =
    let number : SFits w64 c.args.number = c.ranges.number in
    let place : SFits w64 c.args.place = c.ranges.place in
    let answered = simp to_z-of_z at c.bit.ensures in
    search (rules, kinds, answered)
