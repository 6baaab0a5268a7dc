use Rattle.std.proofs.Common.{◌≡◌, length}
use Rattle.theory_meaning.specs.Engine.{mapped_in}
use Rattle.base_engine.proofs.engine_info.EngineInfo.map_type_name.Given as goal

-- what is left decides
abbrev pub invariant-loop-mapping : goal.invariant-loop-mapping
invariant-loop-mapping l = mapped_in l.type_names l.name ≡ mapped_in l.self.type_names l.name

abbrev pub decreases-loop-mapping : goal.decreases-loop-mapping
decreases-loop-mapping l = length l.type_names
