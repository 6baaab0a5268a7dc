use Rattle.std.proofs.Common.{rules}
use Rattle.base_tokens.proofs.position.Span.new.Goals as goal

pub returns-clause-start : goal.returns-clause-start
returns-clause-start c = search rules

pub returns-clause-end : goal.returns-clause-end
returns-clause-end c = search rules
