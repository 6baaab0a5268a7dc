use Rattle.std.proofs.Common.{rules}
use Rattle.base_text.proofs.string_map.StringMap.iter.Goals as goal

pub returns-clause-rest : goal.returns-clause-rest
returns-clause-rest g c = search rules
