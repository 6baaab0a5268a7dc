use Rattle.run_steps.specs.Setting.{setting}
use Rattle.run_steps.specs.Placing.{current_in}
use Rattle.run_state.specs.State.{store_of}
use Rattle.run_steps.proofs.Chaining.{index_asked}
use Rattle.run_places.specs.Reading.{part_value}
use Rattle.run_steps.proofs.chains.finding.find_index.Goals as goal

pub returns-in-AsksHost : goal.returns-in-AsksHost
returns-in-AsksHost g c next =
    let here = setting g.H.Host.answers g.H.Host.modules c.args.machine.now in
    let at = current_in here (store_of c.args.state.now) c.args.current.now in
    index_asked here c.args.state.now _ c.ask_index.result _ at next (part_value c.current_part.result) c.args.index_value c.in-AsksHost.index_value c.current_part.ensures (c.in-AsksHost.ensures at next) (c.ask_index.ensures next)
