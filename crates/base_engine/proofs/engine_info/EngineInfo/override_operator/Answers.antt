use Rattle.std.proofs.Common.{rules}
use Rattle.base_engine.proofs.engine_info.EngineInfo.override_operator.Goals as goal

pub returns-clause-ok : goal.returns-clause-ok
returns-clause-ok c = search rules
