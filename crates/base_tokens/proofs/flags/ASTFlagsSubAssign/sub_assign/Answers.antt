use Rattle.std.proofs.Common.{rules}
use Rattle.base_tokens.proofs.flags.ASTFlagsSubAssign.sub_assign.Goals as goal

pub returns : goal.returns
returns c = search rules
