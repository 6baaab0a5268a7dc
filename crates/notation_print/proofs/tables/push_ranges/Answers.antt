use Rattle.std.proofs.Common.{rules}
use Rattle.notation_print.proofs.TableLists.{pushed_range}
use Rattle.notation_print.proofs.tables.push_ranges.Goals as goal

pub loop-range-preserved : goal.loop-range-preserved
loop-range-preserved c = (
  search rules,
  pushed_range _ _ _ _ _ _ _ _ _ _ c.loop-range-test.true c.index-place.ensures c.loop-range.invariant.1
      c.in_ok-push_str.ensures.bytes c.in_ok-push_range.ensures c.in_ok-write.ensures.bytes,
)
