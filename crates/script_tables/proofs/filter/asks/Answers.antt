use Rattle.std.proofs.Common.{rules}
use Rattle.script_tables.proofs.filter.asks.Goals as goal

pub returns : goal.returns
returns g c = search rules
