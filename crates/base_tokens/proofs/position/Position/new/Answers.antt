use Rattle.std.proofs.Common.{rules}
use Rattle.base_tokens.proofs.position.Position.new.Goals as goal

pub returns-clause-position : goal.returns-clause-position
returns-clause-position c = search rules
