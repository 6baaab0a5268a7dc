use Rattle.std.proofs.Common.{rules}
use Rattle.base_text.proofs.string_map.StringMapPartialEq.eq.Goals as goal

pub returns : goal.returns
returns g c = search rules
