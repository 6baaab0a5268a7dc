use Rattle.std.proofs.Common.{map, refl, sym}
use Rattle.run_places.specs.Reading.{key_meant}
use Rattle.rhai_base.specs.Reading.{value_of}
use Rattle.run_steps.specs.Setting.{setting}
use Rattle.run_steps.proofs.Writing.{record_constant, record_unbound}
use Rattle.run_steps.proofs.steps.machine.Machine.write_in_constant.Goals as goal

pub returns-in-Some : goal.returns-in-Some
returns-in-Some g c = λ s w h. record_constant (setting g.H.Host.answers g.H.Host.modules c.args.self.now) c.args.must s (map key_meant c.args.keys.now) w c.args.name.now h _ (sym c.in-Some.ensures) (value_of c.in-Some.constant.now) c.constant_end.result refl c.constant_end.ensures

pub returns-in-None : goal.returns-in-None
returns-in-None g c = λ s w h. record_unbound (setting g.H.Host.answers g.H.Host.modules c.args.self.now) c.args.must s (map key_meant c.args.keys.now) w c.args.name.now h _ (sym c.in-None.ensures) refl
