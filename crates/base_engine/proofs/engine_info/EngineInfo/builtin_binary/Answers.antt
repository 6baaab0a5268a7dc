use Rattle.std.proofs.Common.{rules}
use Rattle.rhai_base.specs.Operators.{computed}
use Rattle.base_engine.proofs.engine_info.EngineInfo.builtin_binary.Goals as goal

pub returns-then-not-tries_builtin_at : goal.returns-then-not-tries_builtin_at
unfolding computed
returns-then-not-tries_builtin_at c = search rules

pub returns : goal.returns
unfolding computed
returns c = search rules
