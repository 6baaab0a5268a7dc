use Rattle.std.proofs.Common.{rules}
use Rattle.base_text.proofs.string_map.StringMap.len.Goals as goal

pub returns-clause-len : goal.returns-clause-len
returns-clause-len g c = search rules
