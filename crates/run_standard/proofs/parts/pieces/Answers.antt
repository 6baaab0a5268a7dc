use Rattle.std.proofs.Common.{◌≡◌, ◌≤◌, ◌∙◌, ◌++◌, List, ℕ, map, length, drop, [], arith, ap, sym}
use Rattle.std.specs.Prelude.{encode_utf8_all}
use Rattle.rhai_base.specs.Reading.{value_of}
use Rattle.run_standard.specs.Texts.{pieces}
use Rattle.run_standard.proofs.PartSteps.{rest-slice, next-drop, pieces-end}
use Rattle.run_standard.proofs.parts.pieces.Goals as goal

pub loop-i-preserved : goal.loop-i-preserved
loop-i-preserved c =
    let left = λ (k : ℕ) (now cs : List ℕ). pieces c.args.part.now k now cs in
    let here = drop c.loop-i.i c.args.chars.now in
    let so_far : map value_of c.loop-i.all ++ left c.loop-i.skipped c.loop-i.piece.items here ≡ left 0 [] c.args.chars.now = c.loop-i.invariant in
    let step : map value_of c.push_piece.new.all ++ left c.in_ok-skipped.skipped c.push_piece.new.piece.items (drop 1 here) ≡ map value_of c.loop-i.all ++ left c.loop-i.skipped c.loop-i.piece.items here = rw (rest-slice c.args.chars.now c.loop-i.i) at c.in_ok-skipped.ensures in
    ap (λ (cs : List ℕ). map value_of c.push_piece.new.all ++ left c.in_ok-skipped.skipped c.push_piece.new.piece.items cs) (sym (next-drop c.args.chars.now c.loop-i.i)) ∙ step ∙ so_far

pub returns : goal.returns
returns c =
    let past : length c.args.chars.now ≤ c.loop-i.i = omega arith in
    let so_far : map value_of c.loop-i.all ++ pieces c.args.part.now c.loop-i.skipped c.loop-i.piece.items (drop c.loop-i.i c.args.chars.now) ≡ pieces c.args.part.now 0 [] c.args.chars.now = c.loop-i.invariant in
    c.in_ok-push_behind_last.ensures
    ∙ pieces-end c.args.part.now c.loop-i.piece.items c.args.chars.now c.in_ok-spelled.field-0 c.loop-i.all c.push.new.self c.loop-i.skipped c.loop-i.i past
    (c.in_ok-spelled.ensures ∙ ap encode_utf8_all c.as_slice.ensures.value) c.in_ok-push.ensures.ok
    ∙ so_far
