use Rattle.std.proofs.Common.{rules}
use Rattle.base_tokens.proofs.namespace.Namespace.none.Goals as goal

pub returns-clause-index : goal.returns-clause-index
returns-clause-index c = search rules
