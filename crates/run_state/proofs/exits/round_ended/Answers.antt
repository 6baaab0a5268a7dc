use Rattle.std.proofs.Common.{rules}
use Rattle.rhai_base.specs.Reading.{kinds}
use Rattle.run_state.proofs.exits.round_ended.Goals as goal

pub returns-in-Err-Break : goal.returns-in-Err-Break
returns-in-Err-Break c = search (rules, kinds)
