use Rattle.std.proofs.Common.{rules}
use Rattle.rhai_base.proofs.dynamic.Dynamic.push_written.Goals as goal

pub returns-clause-ok : goal.returns-clause-ok
returns-clause-ok c = search rules
