use Rattle.std.proofs.Common.{rules}
use Rattle.base_lists.proofs.seq.Seq.len.Goals as goal

pub returns : goal.returns
returns g c = search rules
