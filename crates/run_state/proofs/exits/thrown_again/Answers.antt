use Rattle.std.proofs.Common.{rules}
use Rattle.run_state.proofs.exits.thrown_again.Goals as goal

pub returns-then-is_unit : goal.returns-then-is_unit
returns-then-is_unit c = search rules

pub returns-else-is_unit : goal.returns-else-is_unit
returns-else-is_unit c = search rules
