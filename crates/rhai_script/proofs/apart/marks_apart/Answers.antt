use Rattle.std.proofs.Common.{◌≡◌, true, sym, ◌∙◌}
use borrow.Author.Count.{below_more}
use Rattle.rhai_script.specs.Renamed.{clash}
use Rattle.rhai_script.proofs.apart.marks_apart.Goals as goal

pub returns-then-not-found-clause-apart : goal.returns-then-not-found-clause-apart
returns-then-not-found-clause-apart c = sym (c.in_ok-found.ensures c.args.first.now.functions c.in_ok-names.ensures) ∙ c.if-not-found.true

pub loop-marks-preserved : goal.loop-marks-preserved
loop-marks-preserved c =
    let here : clash c.loop-marks.marks c.args.first.now.functions c.args.second.now.functions ≡ true = sym (c.in_ok-found.ensures c.args.first.now.functions c.in_ok-names.ensures) ∙ c.if-not-found.false in
    below_more (λ k. clash k c.args.first.now.functions c.args.second.now.functions ≡ true) c.loop-marks.marks c.loop-marks.invariant here
