use Rattle.std.proofs.Common.{SFits, w64, rules}
use Rattle.std.proofs.lemmas.Int.{to_z-of_z}
use Rattle.rhai_base.specs.Reading.{kinds, dynamic_cases}
use Rattle.opt_chains.proofs.OtherParts.{no_place}
use Rattle.opt_chains.proofs.parts.answers.at_place.Goals as goal

pub returns-in-Int : goal.returns-in-Int
returns-in-Int c =
    let fits : SFits w64 c.in-Int.number = search rules in
    let answered = simp to_z-of_z at c.bit_at.ensures in
    rw c.in-Int.is (search (rules, kinds, answered))

pub returns-in_default : goal.returns-in_default
returns-in_default c = no_place (dynamic_cases c.args.value.now) c.in_default.not-Array c.in_default.not-Str c.in_default.not-Int c.args.place
