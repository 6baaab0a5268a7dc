use Rattle.ast_same.proofs.Items.{ranges_short}
use Rattle.ast_same.proofs.tables.alike_ranges.Goals as goal

pub returns-in_default : goal.returns-in_default
returns-in_default c = ranges_short _ _ _ _ c.loop-range-test.true c.loop-range.invariant c.in_default.ensures.cases
