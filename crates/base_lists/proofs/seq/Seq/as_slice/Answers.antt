use Rattle.std.proofs.Common.{rules}
use Rattle.base_lists.proofs.seq.Seq.as_slice.Goals as goal

pub returns : goal.returns
returns g c = search rules
