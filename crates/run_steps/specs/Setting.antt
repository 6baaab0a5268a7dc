-- What a machine's steps run in.
use Rattle.std.specs.Prelude.{List, map}
use Rattle.theory_meaning.specs.Act.{HostCall, Answer}
use Rattle.theory_meaning.specs.Desugar.{core_function}
use Rattle.theory_meaning.specs.Run.{world_of}
use Rattle.script_tables.specs.FnLib.{functions_of}
use Rattle.base_engine.specs.EngineInfo.{engine_of}
use Rattle.run_host.specs.Host.{Modules, host_of}
use Rattle.run_steps.specs.declared.steps.machine.Machine.{Machine}
use Rattle.run_state.specs.Runs.{Setting, setting_of}

-- that of a machine, by what its host answers and its modules hold
abbrev pub setting : {H : Type 0} → (H → List HostCall → HostCall → Answer) → (H → Modules) → Machine H → Setting
setting answers modules e =
    let fs = (map core_function (functions_of e.functions.now)) in
    setting_of (world_of (engine_of e.info.now) (host_of (answers e.host.now) (modules e.host.now)) fs) fs
