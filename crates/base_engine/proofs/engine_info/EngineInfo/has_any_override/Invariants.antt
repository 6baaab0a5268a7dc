use Rattle.std.proofs.Common.{◌≡◌, drop}
use Rattle.theory_meaning.specs.Engine.{overrides_any}
use Rattle.base_engine.proofs.engine_info.EngineInfo.has_any_override.Given as goal

-- what is left decides
abbrev pub invariant-loop-operator : goal.invariant-loop-operator
invariant-loop-operator l = overrides_any (drop l.operator-index l.self.overrides) l.name ≡ overrides_any l.self.overrides l.name
