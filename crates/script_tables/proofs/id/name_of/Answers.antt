use Rattle.std.proofs.Common.{rules}
use Rattle.script_tables.proofs.id.name_of.Goals as goal

pub returns : goal.returns
returns c = search rules
