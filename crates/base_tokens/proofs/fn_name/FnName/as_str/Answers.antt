use Rattle.std.proofs.Common.{rules}
use Rattle.base_tokens.proofs.fn_name.FnName.as_str.Goals as goal

pub returns-clause-text : goal.returns-clause-text
returns-clause-text c = search rules
