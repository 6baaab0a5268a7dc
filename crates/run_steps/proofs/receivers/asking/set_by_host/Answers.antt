use Rattle.std.proofs.Common.{map}
use Rattle.std.proofs.lemmas.Result.{err_from_is_err_and}
use Rattle.rhai_base.specs.Reading.{value_of}
use Rattle.run_steps.specs.Setting.{setting}
use Rattle.run_steps.proofs.Chaining.{host_sets, host_stops}
use Rattle.run_steps.proofs.receivers.asking.set_by_host.Goals as goal

pub returns-in_err-receiver-2 : goal.returns-in_err-receiver-2
returns-in_err-receiver-2 g c =
    let p = err_from_is_err_and c.from_residual-in_err-receiver-2.result c.from_residual-in_err-receiver-2.ensures.1 in
    rw (p.1, p.2) (host_stops (setting g.H.Host.answers g.H.Host.modules c.args.machine.now) c.args.current.now c.args.state.now c.ask_method.new.state c.args.name c.in_ok-receiver.receiver (map value_of c.args.args) c.in_ok-receiver.ensures _ c.in_err-receiver-2.ensures)

pub returns : goal.returns
returns g c =
    host_sets (setting g.H.Host.answers g.H.Host.modules c.args.machine.now) c.args.current.now c.args.state.now c.ask_method.new.state c.args.name c.in_ok-receiver.receiver (map value_of c.args.args) c.in_ok-receiver.ensures (c.in_ok-receiver-2.field-0-0, c.in_ok-receiver-2.receiver) c.in_ok-receiver-2.ensures _ c.put_back.result c.put_back.ensures
