use Rattle.std.proofs.Common.{rules, ◌≡◌, ◌∙◌, w64}
use mir.Val.{of_z, to_z}
use Rattle.run_standard.proofs.Readings.{number-some, number-none}
use Rattle.run_standard.proofs.reading.number_in.Goals as goal

pub returns-in-Ok : goal.returns-in-Ok
returns-in-Ok c =
    let same : to_z w64 (of_z w64 c.in-Ok.number) ≡ c.in-Ok.number = search rules in
    number-some c.args.text.now _ c.in-Ok.ensures.value.0.0 (same ∙ c.in-Ok.ensures.value.0.1)

pub returns-in-Err : goal.returns-in-Err
returns-in-Err c = number-none c.args.text.now c.in-Err.ensures.value.0
