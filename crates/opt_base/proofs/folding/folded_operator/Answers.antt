use Rattle.std.proofs.Common.{arith}
use borrow.Author.Tests.{ltb-true, ltb-false}
use Rattle.base_engine.specs.EngineInfo.{engine_of}
use Rattle.opt_base.proofs.Tokens.{folded-few, folded-many}
use Rattle.opt_base.proofs.folding.folded_operator.Goals as goal
use Rattle.opt_base.proofs.folding.folded_operator.Goals.{in_default-via-then-operands-lt1, in_default-via-else-operands-lt1+else-operands-lt2+else-operands-lt3}

pub returns-in_default : goal.returns-in_default
returns-in_default c =
    elim c.in_default.branch [
      | in_default-via-then-operands-lt1 w ↦ folded-few (engine_of c.args.info.now) c.args.op c.args.operands.now (omega (arith, ltb-true))
      | in_default-via-else-operands-lt1+else-operands-lt2+else-operands-lt3 w ↦ folded-many (engine_of c.args.info.now) c.args.op c.args.operands.now (omega (arith, ltb-false))
    ]
