use Rattle.std.proofs.Common.{rules}
use Rattle.base_text.proofs.string_map.StringMap.insert.Goals as goal

pub returns-in-Ok-clause-ok : goal.returns-in-Ok-clause-ok
returns-in-Ok-clause-ok g c = search rules
