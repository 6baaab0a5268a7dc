use Rattle.std.proofs.Common.{rules}
use Rattle.base_engine.proofs.engine_info.EngineInfo.new.Goals as goal

pub returns : goal.returns
returns c = search rules
