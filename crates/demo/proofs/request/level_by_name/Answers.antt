use Rattle.std.proofs.Common.{rules}
use Rattle.demo.proofs.request.level_by_name.Goals as goal

pub returns-in-full : goal.returns-in-full
returns-in-full c = search (rules)
