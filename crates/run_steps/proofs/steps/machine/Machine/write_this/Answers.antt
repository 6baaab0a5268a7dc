use Rattle.std.proofs.Common.{refl}
use Rattle.rhai_base.specs.Reading.{value_of}
use Rattle.run_steps.specs.Setting.{setting}
use Rattle.run_steps.proofs.Writing.{this_replaced}
use Rattle.run_steps.proofs.steps.machine.Machine.write_this.Goals as goal

pub returns : goal.returns
returns g c = this_replaced (setting g.H.Host.answers g.H.Host.modules c.args.self.now) (value_of c.args.value) c.args.state.now c.in-Some.this c.args.value _ c.in-Some.is refl refl refl refl
