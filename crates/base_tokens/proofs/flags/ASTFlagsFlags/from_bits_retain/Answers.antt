use Rattle.std.proofs.Common.{rules}
use Rattle.base_tokens.proofs.flags.ASTFlagsFlags.from_bits_retain.Goals as goal

pub returns : goal.returns
returns c = search rules
