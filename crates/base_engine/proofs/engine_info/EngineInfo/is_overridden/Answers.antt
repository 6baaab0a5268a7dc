use Rattle.std.proofs.Common.{arith}
use Rattle.std.proofs.lemmas.Grind.{common_steps}
use Rattle.base_engine.proofs.engine_info.EngineInfo.is_overridden.Goals as goal

pub returns-then-is : goal.returns-then-is
returns-then-is c = grind (arith, common_steps)

pub returns : goal.returns
returns c = grind (arith, common_steps)
