use Rattle.std.proofs.Common.{◌≡◌, ◌<◌, ◌∙◌, ◌++◌, List, ℕ, arith, sym, ap}
use Rattle.std.specs.Prelude.{encode_utf8_all}
use Rattle.run_standard.specs.Texts.{kept_behind}
use Rattle.run_standard.proofs.PartSteps.{pieces-skip, pieces-keep, pieces-here}
use Rattle.run_standard.proofs.parts.push_piece.Goals as goal

pub returns-then-skipped-gt0 : goal.returns-then-skipped-gt0
returns-then-skipped-gt0 c =
    let some : 0 < c.args.skipped = omega arith in
    pieces-skip c.args.part.now c.args.piece.now.items c.args.chars.now c.args.all.now c.args.skipped some c.requires

pub returns-then-not-begins_with : goal.returns-then-not-begins_with
returns-then-not-begins_with c =
    let none : c.args.skipped ≡ 0 = omega arith in
    rw none (pieces-keep c.args.part.now c.args.piece.now.items c.args.chars.now c.push.new.self.items c.args.all.now c.index-chars-0.result
    c.requires (sym c.if-not-begins_with.ensures) c.index-chars-0.is c.in_ok-push.ensures.items)

pub returns : goal.returns
returns c =
    let none : c.args.skipped ≡ 0 = omega arith in
    rw (none, c.saturating_sub.ensures) (pieces-here c.args.part.now c.args.piece.now.items c.args.chars.now c.push_kept.new.all.items _ c.args.all.now c.push-2.new.self c.index-chars-0-2.result
    c.requires (sym c.if-not-begins_with.ensures) c.index-chars-0-2.is
    (c.in_ok-spelled.ensures ∙ ap encode_utf8_all c.as_slice.ensures.value) c.in_ok-push-2.ensures.ok
    (c.in_ok-push_kept.ensures ∙ ap (λ (xs : List ℕ). xs ++ kept_behind c.args.part.now c.index-chars-0-2.result) c.clear.ensures.items))
