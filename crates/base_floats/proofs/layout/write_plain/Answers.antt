use Rattle.std.proofs.Common.{refl, true}
use Rattle.std.proofs.Output.{has_written_append, has_written_of_eq}
use Rattle.base_floats.proofs.Steps.{plain_above}
use Rattle.base_floats.proofs.layout.write_plain.Goals as goal

pub returns : goal.returns
returns g c plain ok =
    let first = c.in_ok-write_str.ensures.writes plain (refl {a = true}) in
    let zeros = c.in_ok-write_zeros.ensures first.plain (refl {a = true}) in
    let point = c.write_str-2.ensures.writes zeros.plain ok in
    has_written_of_eq _ _ _ _ _ (plain_above c.args.power c.args.digits.now c.if-power-lt400.false)
    (has_written_append _ _ _ _ _ _ (has_written_append _ _ _ _ _ _ first zeros) point)
