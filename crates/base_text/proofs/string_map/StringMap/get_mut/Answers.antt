use Rattle.std.proofs.Common.{rules}
use Rattle.base_text.proofs.string_map.StringMap.get_mut.Goals as goal

pub returns : goal.returns
returns g c = search rules
