use Rattle.std.proofs.Common.{rules}
use Rattle.base_tokens.proofs.token.Token.literal_syntax.Goals as goal

pub returns-in-LessThanEqualsTo : goal.returns-in-LessThanEqualsTo
returns-in-LessThanEqualsTo c = search rules
