use Rattle.std.proofs.Common.{rules}
use Rattle.base_tokens.proofs.position.Span.or_else.Goals as goal

pub returns-clause-start : goal.returns-clause-start
returns-clause-start c = search rules
