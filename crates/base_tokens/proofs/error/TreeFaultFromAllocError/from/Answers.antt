use Rattle.std.proofs.Common.{rules}
use Rattle.base_tokens.proofs.error.TreeFaultFromAllocError.from.Goals as goal

pub returns : goal.returns
returns c = search rules
