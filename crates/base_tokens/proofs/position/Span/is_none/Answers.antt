use Rattle.std.proofs.Common.{rules}
use Rattle.base_tokens.proofs.position.Span.is_none.Goals as goal

pub returns : goal.returns
returns c = search rules
