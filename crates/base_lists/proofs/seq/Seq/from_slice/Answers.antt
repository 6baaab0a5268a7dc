use Rattle.std.proofs.Common.{rules}
use Rattle.base_lists.proofs.seq.Seq.from_slice.Goals as goal

pub returns-in_err-items : goal.returns-in_err-items
returns-in_err-items g c = search rules

pub returns : goal.returns
returns g c = search rules
