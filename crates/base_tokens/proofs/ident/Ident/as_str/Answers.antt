use Rattle.std.proofs.Common.{rules}
use Rattle.base_tokens.proofs.ident.Ident.as_str.Goals as goal

pub returns : goal.returns
returns c = search rules
