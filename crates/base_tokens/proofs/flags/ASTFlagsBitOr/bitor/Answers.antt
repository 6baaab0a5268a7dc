use Rattle.std.proofs.Common.{rules}
use Rattle.base_tokens.proofs.flags.ASTFlagsBitOr.bitor.Goals as goal

pub returns : goal.returns
returns c = search rules
