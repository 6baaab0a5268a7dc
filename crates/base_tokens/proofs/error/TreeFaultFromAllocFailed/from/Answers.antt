use Rattle.std.proofs.Common.{rules}
use Rattle.base_tokens.proofs.error.TreeFaultFromAllocFailed.from.Goals as goal

pub returns : goal.returns
returns g c = search rules
