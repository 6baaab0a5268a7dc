use Rattle.std.proofs.Common.{rules}
use Rattle.rhai_base.specs.Operators.{computed}
use Rattle.base_engine.proofs.engine_info.EngineInfo.builtin_unary.Goals as goal

pub returns-then-not-tries_builtin : goal.returns-then-not-tries_builtin
unfolding computed
returns-then-not-tries_builtin c = search rules

pub returns : goal.returns
unfolding computed
returns c = search rules
