use Rattle.std.proofs.Common.{rules}
use Rattle.rhai_base.proofs.cases.Cases.into_map.Goals as goal

pub returns : goal.returns
returns c = search (rules)
