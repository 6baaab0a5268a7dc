use Rattle.std.proofs.Common.{sym, ap}
use Rattle.rhai_base.specs.Reading.{value_of}
use Rattle.run_steps.specs.Setting.{setting}
use Rattle.run_steps.specs.Variables.{root_meant}
use Rattle.run_steps.proofs.Placing.{read_given, read_stuck}
use Rattle.run_steps.proofs.steps.machine.Machine.read.Goals as goal

pub returns-in_ok-clone-in-Ok : goal.returns-in_ok-clone-in-Ok
returns-in_ok-clone-in-Ok g c =
    read_given (setting g.H.Host.answers g.H.Host.modules c.args.self.now) c.args.state.now (root_meant c.args.root) (value_of c.in-Ok.value.now) (value_of c.in_ok-clone-in-Ok.field-0) c.in-Ok.ensures (ap value_of (sym c.in_ok-clone-in-Ok.ensures.cases))

pub returns-in-Err : goal.returns-in-Err
returns-in-Err g c = read_stuck (setting g.H.Host.answers g.H.Host.modules c.args.self.now) c.args.state.now (root_meant c.args.root) c.in-Err.stuck c.in-Err.ensures
