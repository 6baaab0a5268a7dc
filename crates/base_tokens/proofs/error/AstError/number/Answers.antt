use Rattle.std.proofs.Common.{rules}
use Rattle.base_tokens.proofs.error.AstError.number.Goals as goal

pub returns-in-SwitchKey : goal.returns-in-SwitchKey
returns-in-SwitchKey c = search rules
