use Rattle.std.proofs.Common.{rules}
use Rattle.ast_types.specs.Reading.{shapes}
use Rattle.rhai_base.specs.Reading.{kinds}
use Rattle.run_state.proofs.counting.declare_count.Goals as goal

pub returns : goal.returns
returns c = search (rules, shapes, kinds)
