use Rattle.std.proofs.Common.{arith, map}
use Rattle.std.proofs.lemmas.List.{length-map}
use borrow.Author.Tests.{ltb-true, ltb-false}
use Rattle.rhai_base.specs.Reading.{value_of}
use Rattle.base_engine.specs.EngineInfo.{engine_of}
use Rattle.base_engine.proofs.Operands.{built_in-few, built_in-many}
use Rattle.run_steps.proofs.nodes.operators.builtin.Goals as goal
use Rattle.run_steps.proofs.nodes.operators.builtin.Goals.{in_default-via-then-args-lt1, in_default-via-else-args-lt1+else-args-lt2+else-args-lt3}

pub returns-in_default : goal.returns-in_default
returns-in_default c =
    let engine = engine_of c.args.info.now in
    let args = map value_of c.args.args.now in
    elim c.in_default.branch [
      | in_default-via-then-args-lt1 w ↦ built_in-few engine c.args.op args (omega (arith, ltb-true, length-map c.args.args.now value_of))
      | in_default-via-else-args-lt1+else-args-lt2+else-args-lt3 w ↦ built_in-many engine c.args.op args (omega (arith, ltb-false, length-map c.args.args.now value_of))
    ]
