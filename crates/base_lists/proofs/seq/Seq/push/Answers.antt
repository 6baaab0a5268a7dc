use Rattle.std.proofs.Common.{rules}
use Rattle.base_lists.proofs.seq.Seq.push.Goals as goal

pub returns-clause-ok : goal.returns-clause-ok
returns-clause-ok g c = search rules
