use Rattle.std.proofs.Common.{rules}
use Rattle.base_tokens.proofs.position.Span.start.Goals as goal

pub returns : goal.returns
returns c = search rules
