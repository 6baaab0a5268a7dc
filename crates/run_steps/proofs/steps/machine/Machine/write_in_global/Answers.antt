use Rattle.std.proofs.Common.{map}
use Rattle.run_places.specs.Reading.{key_meant}
use Rattle.rhai_base.specs.Reading.{value_of}
use Rattle.run_steps.specs.Setting.{setting}
use Rattle.run_steps.proofs.Writing.{global_leads}
use Rattle.run_steps.proofs.steps.machine.Machine.write_in_global.Goals as goal

pub returns-in-Ok : goal.returns-in-Ok
returns-in-Ok g c = λ w. global_leads (setting g.H.Host.answers g.H.Host.modules c.args.self.now) c.args.must c.args.state.now (map key_meant c.args.keys.now) w c.args.name.now (value_of c.in-Ok.constant.now) c.in-Ok.ensures c.constant_end.result c.constant_end.ensures
