use Rattle.std.proofs.Common.{ap}
use Rattle.rhai_base.specs.Reading.{value_of}
use Rattle.run_places.specs.Reading.{part_value}
use Rattle.run_steps.specs.Setting.{setting}
use Rattle.run_steps.proofs.Following.{comes_last, further_each}
use Rattle.run_steps.proofs.chains.direct.+part_of.Goals as goal

pub returns-in-None : goal.returns-in-None
returns-in-None g t c =
    comes_last (setting g.H.Host.answers g.H.Host.modules c.args.machine.now) c.args.state.now c.args.rest c.link-link.result c.link-link.ensures.steps (value_of c.args.value.now) (part_value c.in_ok-part.part) c.in_ok-part.ensures c.in-None.is

pub returns-in-Stored : goal.returns-in-Stored
returns-in-Stored g t c =
    further_each (setting g.H.Host.answers g.H.Host.modules c.args.machine.now) c.args.state.now c.args.rest c.link-link.result c.link-link.ensures.steps (value_of c.args.value.now) (part_value c.in_ok-part.part) c.in_ok-part.ensures c.in-Some.rest _ (ap part_value c.in-Stored.is) c.in-Some.is c.part_of.result c.part_of.ensures
