use Rattle.std.proofs.Common.{rules}
use Rattle.base_tokens.proofs.position.Position.line.Goals as goal

pub returns-else-is_none : goal.returns-else-is_none
returns-else-is_none c = search rules
