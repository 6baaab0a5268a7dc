use Rattle.std.proofs.Common.{arith, length, ap}
use Rattle.tests_of_scripts.proofs.HostRows.{answer_among-none}
use Rattle.tests_of_scripts.proofs.given.RowsHostHost.answer.Goals as goal

pub returns : goal.returns
returns c = answer_among-none c.args.self.now.answers c.args.past.now c.loop-row.row-index c.args.call.now.name
    (omega (arith, c.loop-row-test.false, c.loop-row.auto.row-index-end, ap length c.as_slice-row-items.ensures))
    c.loop-row.invariant
