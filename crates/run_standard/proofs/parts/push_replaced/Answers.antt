use Rattle.std.proofs.Common.{◌≡◌, ◌<◌, arith, sym}
use Rattle.run_standard.proofs.PartSteps.{replaced-skip, replaced-keep, replaced-here}
use Rattle.run_standard.proofs.parts.push_replaced.Goals as goal

pub returns-then-skipped-gt0 : goal.returns-then-skipped-gt0
returns-then-skipped-gt0 c =
    let some : 0 < c.args.skipped = omega arith in
    replaced-skip c.args.part.now c.args.others.now c.args.chars.now c.args.all.now.items c.args.skipped some c.requires

pub returns-then-not-begins_with : goal.returns-then-not-begins_with
returns-then-not-begins_with c =
    let none : c.args.skipped ≡ 0 = omega arith in
    rw none (replaced-keep c.args.part.now c.args.others.now c.args.chars.now c.args.all.now.items c.push.new.self.items c.index-chars-0.result
    c.requires (sym c.if-not-begins_with.ensures) c.index-chars-0.is c.in_ok-push.ensures.items)

pub returns : goal.returns
returns c =
    let none : c.args.skipped ≡ 0 = omega arith in
    rw (none, c.saturating_sub.ensures) (replaced-here c.args.part.now c.args.others.now c.args.chars.now c.args.all.now.items c.extend_from_slice.new.self.items c.push_kept.new.all.items c.index-chars-0-2.result
    c.requires (sym c.if-not-begins_with.ensures) c.index-chars-0-2.is c.in_ok-extend_from_slice.ensures.items c.in_ok-push_kept.ensures)
