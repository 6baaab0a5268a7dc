use Rattle.std.proofs.Common.{◌≡◌, ◌∙◌, ◌++◌, List, ℕ, drop, ap, sym}
use Rattle.run_standard.specs.Texts.{replaced}
use Rattle.run_standard.proofs.PartSteps.{rest-slice, next-drop}
use Rattle.run_standard.proofs.parts.replaced.Goals as goal

pub loop-i-preserved : goal.loop-i-preserved
loop-i-preserved c =
    let left = λ (k : ℕ) (cs : List ℕ). replaced c.args.part.now c.args.others.now k cs in
    let here = drop c.loop-i.i c.args.chars.now in
    let so_far : c.loop-i.all.items ++ left c.loop-i.skipped here ≡ left 0 c.args.chars.now = c.loop-i.invariant in
    let step : c.push_replaced.new.all.items ++ left c.in_ok-skipped.skipped (drop 1 here) ≡ c.loop-i.all.items ++ left c.loop-i.skipped here = rw (rest-slice c.args.chars.now c.loop-i.i) at c.in_ok-skipped.ensures in
    ap (λ (cs : List ℕ). c.push_replaced.new.all.items ++ left c.in_ok-skipped.skipped cs) (sym (next-drop c.args.chars.now c.loop-i.i)) ∙ step ∙ so_far
