use Rattle.std.proofs.Common.{rules}
use Rattle.base_tokens.proofs.fn_name.FnNameHash.hash.Goals as goal

pub returns : goal.returns
returns g c = search rules
