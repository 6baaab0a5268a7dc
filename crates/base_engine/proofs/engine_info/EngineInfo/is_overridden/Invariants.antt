use Rattle.std.proofs.Common.{◌≡◌, map, drop}
use Rattle.std.specs.Map.Iter.{deref}
use Rattle.theory_meaning.specs.Engine.{has_override}
use Rattle.base_engine.proofs.engine_info.EngineInfo.is_overridden.Given as goal

-- what is left decides
abbrev pub invariant-loop-operator : goal.invariant-loop-operator
invariant-loop-operator l =
    has_override (drop l.operator-index l.self.overrides) l.name (map deref l.types) ≡ has_override l.self.overrides l.name (map deref l.types)
