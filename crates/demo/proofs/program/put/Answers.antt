use Rattle.std.proofs.Common.{arith, length-drop}
use Rattle.demo.proofs.Writes.{rest-slice, written_more}
use Rattle.demo.proofs.program.put.Goals as goal

pub loop-preserved : goal.loop-preserved
loop-preserved g c =
    let bytes = c.as_bytes-bytes.result.now in
    let written = c.loop.written in
    let bound = rw (rest-slice bytes written) at c.in_ok-written.ensures.bound in
    let more = rw (rest-slice bytes written) at c.in_ok-written.ensures.bytes in
    (omega (arith, c.loop.invariant.0, bound, length-drop written bytes), written_more _ _ _ bytes written _ c.loop.invariant.1 more)
