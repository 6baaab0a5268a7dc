use Rattle.std.proofs.Common.{rules}
use Rattle.rhai_base.proofs.cases.Cases.replace_map.Goals as goal

pub returns-clause-taken : goal.returns-clause-taken
returns-clause-taken c = search (rules)
