use Rattle.std.proofs.Common.{◌<◌, ◌∙◌, length, drop, length-drop, arith, sym}
use Rattle.run_standard.proofs.PartSteps.{rest-slice, place-next}
use Rattle.run_standard.proofs.parts.place_of_part.Goals as goal

pub loop-i-preserved : goal.loop-i-preserved
loop-i-preserved c =
    let some : 0 < length (drop c.loop-i.i c.args.chars.now) = omega (arith, length-drop c.loop-i.i c.args.chars.now) in
    let other = rw (rest-slice c.args.chars.now c.loop-i.i) at c.if-begins_with.ensures in
    c.loop-i.invariant ∙ place-next c.args.part.now c.args.chars.now c.loop-i.i some (sym other)
