use Rattle.std.proofs.Common.{rules}
use Rattle.base_tokens.proofs.flags.ASTFlagsBitAndAssign.bitand_assign.Goals as goal

pub returns : goal.returns
returns c = search rules
