use Rattle.std.proofs.Common.{◌≡◌, length}
use Rattle.theory_meaning.specs.Engine.{constant_named}
use Rattle.base_engine.specs.EngineInfo.{constants_of}
use Rattle.base_engine.proofs.engine_info.EngineInfo.constant_named.Given as goal

-- what is left decides
abbrev pub invariant-loop-constant : goal.invariant-loop-constant
invariant-loop-constant l = constant_named (constants_of l.constants) l.name ≡ constant_named (constants_of l.self.constants) l.name

abbrev pub decreases-loop-constant : goal.decreases-loop-constant
decreases-loop-constant l = length l.constants
