use Rattle.std.proofs.Common.{rules}
use Rattle.base_tokens.proofs.token.Token.lookup_symbol_from_syntax.Goals as goal

pub returns : goal.returns
returns c = search rules
