use Rattle.std.proofs.Common.{rules}
use Rattle.base_tokens.proofs.position.Position.is_none.Goals as goal

pub returns : goal.returns
returns c = search rules
