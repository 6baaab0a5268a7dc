use Rattle.std.proofs.Common.{rules}
use Rattle.base_tokens.proofs.fn_name.FnNamePartialEq.eq.Goals as goal

pub returns : goal.returns
returns c = search rules
