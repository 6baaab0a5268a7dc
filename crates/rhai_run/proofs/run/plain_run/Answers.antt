use Rattle.rhai_script.specs.Script.{script_of}
use Rattle.base_engine.specs.EngineInfo.{engine_of}
use Rattle.run_host.specs.Entries.{start_scope}
use Rattle.run_host.specs.Host.{host_of}
use Rattle.rhai_run.proofs.Whole.{script_report}
use Rattle.rhai_run.proofs.run.plain_run.Goals as goal

pub returns : goal.returns
returns g c =
    let engine = engine_of c.args.info.now in
    let host = host_of (g.H.Host.answers c.args.host.now) (g.H.Host.modules c.args.host.now) in
    let script = script_of c.args.ast.now in
    let scope = start_scope c.args.scope.now in
    let ran = rw (c.deref.ensures, c.shared_lib.ensures, c.statements.ensures) at c.statements-ended.ensures in
    rw (c.in_ok-variables.ensures.names, c.in_ok-variables.ensures.exports) (script_report engine host script scope c.args.turns c.in_ok-state.state c.statements-ended.new.state c.in_ok-state.ensures.store c.in_ok-state.ensures.turns _ _ c.in_ok-run_end.ensures ran)
