use Rattle.std.proofs.Common.{arith, map, length, ap, List, ◌∙◌}
use Rattle.std.proofs.lemmas.Bool.{ltb-true, ltb-false}
use Rattle.std.proofs.lemmas.List.{length-map}
use Rattle.rhai_base.specs.declared.dynamic.Dynamic.{Dynamic}
use Rattle.rhai_base.specs.Reading.{value_of}
use Rattle.demo.proofs.ProgramHosts.{pushed-few, pushed-many}
use Rattle.demo.proofs.program_host.pushed.Goals as goal
use Rattle.demo.proofs.program_host.pushed.Goals.{in_default-as_slice-via-then-as_slice-lt1, in_default-as_slice-via-else-as_slice-lt1+else-this-lt2}

pub returns-in_default-as_slice : goal.returns-in_default-as_slice
returns-in_default-as_slice c =
    let args = map value_of c.args.call.now.args in
    let same = length-map c.args.call.now.args value_of in
    let lent = ap (λ (l : List Dynamic). length l) c.as_slice.ensures in
    let receiver = value_of c.in-Some.receiver in
    c.unit_alone-in_default-as_slice.ensures ∙ rw c.in-Some.is (elim c.in_default-as_slice.branch [
      | in_default-as_slice-via-then-as_slice-lt1 w ↦ pushed-few receiver args (omega (arith, ltb-true, same, lent))
      | in_default-as_slice-via-else-as_slice-lt1+else-this-lt2 w ↦ pushed-many receiver args (omega (arith, ltb-false, same, lent))
    ])
