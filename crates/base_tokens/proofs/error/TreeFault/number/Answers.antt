use Rattle.std.proofs.Common.{rules}
use Rattle.base_tokens.proofs.error.TreeFault.number.Goals as goal

pub returns-in-CatchName : goal.returns-in-CatchName
returns-in-CatchName c = search rules
