use Rattle.std.proofs.Common.{rules}
use Rattle.base_engine.proofs.engine_info.EngineInfo.set_type_name.Goals as goal

pub returns-clause-ok : goal.returns-clause-ok
returns-clause-ok c = search rules
