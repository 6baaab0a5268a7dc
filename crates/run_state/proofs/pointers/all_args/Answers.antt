use Rattle.std.proofs.Common.{rules}
use Rattle.rhai_base.specs.Reading.{kinds}
use Rattle.run_state.proofs.pointers.all_args.Goals as goal

pub returns : goal.returns
returns c = search (rules, kinds)
