use Rattle.std.proofs.Common.{arith, map, ◌∙◌}
use Rattle.std.proofs.lemmas.Bool.{ltb-true, ltb-false}
use Rattle.std.proofs.lemmas.List.{length-map}
use Rattle.rhai_base.specs.Reading.{value_of}
use Rattle.demo.proofs.ProgramHosts.{joined_texts-few, joined_texts-many}
use Rattle.demo.proofs.program_host.joined_texts.Goals as goal
use Rattle.demo.proofs.program_host.joined_texts.Goals.{in_default-via-then-args-lt2, in_default-via-else-args-lt2+else-args-lt3}

pub returns-in_default : goal.returns-in_default
returns-in_default c =
    let args = map value_of c.args.args.now in
    let same = length-map c.args.args.now value_of in
    c.unit_alone.ensures ∙ elim c.in_default.branch [
      | in_default-via-then-args-lt2 w ↦ joined_texts-few args (omega (arith, ltb-true, same))
      | in_default-via-else-args-lt2+else-args-lt3 w ↦ joined_texts-many args (omega (arith, ltb-false, same))
    ]
