use Rattle.std.proofs.Common.{ℕ, ◌&&◌, ◌+◌, drop, slice_get, sym, ap, ◌∙◌}
use Rattle.theory_meaning.specs.Queries.{arm_purities, listed_arms_are_pure}
use Rattle.ast_types.specs.Reading.{arms_of}
use Rattle.ast_nodes.specs.Arms.{is_pure_if_any}
use Rattle.ast_nodes.proofs.Tables.{arm-get, listed-drop, listed_by_ranges, ranges-drop}
use Rattle.ast_nodes.proofs.queries.purity.+pure.Goals as goal

pub are_pure_arms-returns-then-not-is_pure_at : goal.are_pure_arms-returns-then-not-is_pure_at
are_pure_arms-returns-then-not-is_pure_at t c =
    let arms = c.args.arms.now in
    let purities = arm_purities (arms_of arms) in
    let rest = listed_arms_are_pure purities (drop (c.loop-place.place-index + 1) c.args.places.now) in
    sym
    (c.loop-place.invariant ∙ listed-drop purities c.args.places.now c.loop-place.place-index _ c.loop-place-test.true
    ∙ ap (λ b. b && rest) (arm-get arms _ ∙ sym c.is_pure_at.ensures ∙ c.if-not-is_pure_at.true))

pub are_pure_arms-loop-place-preserved : goal.are_pure_arms-loop-place-preserved
are_pure_arms-loop-place-preserved t c =
    let arms = c.args.arms.now in
    let purities = arm_purities (arms_of arms) in
    let rest = listed_arms_are_pure purities (drop (c.loop-place.place-index + 1) c.args.places.now) in
    c.loop-place.invariant ∙ listed-drop purities c.args.places.now c.loop-place.place-index _ c.loop-place-test.true
    ∙ ap (λ b. b && rest) (arm-get arms _ ∙ sym c.is_pure_at.ensures ∙ c.if-not-is_pure_at.false)

pub are_pure_ranges-returns-then-not-is_pure_at : goal.are_pure_ranges-returns-then-not-is_pure_at
are_pure_ranges-returns-then-not-is_pure_at t c =
    let arms = c.args.arms.now in
    let purities = arm_purities (arms_of arms) in
    let rest = listed_by_ranges purities (drop (c.loop-range.range-index + 1) c.args.ranges.now) in
    sym
    (c.loop-range.invariant ∙ ranges-drop purities c.args.ranges.now c.loop-range.range-index _ c.loop-range-test.true
    ∙ ap (λ b. b && rest) (arm-get arms _)
    ∙ ap (λ (i : ℕ). is_pure_if_any (slice_get arms i) && rest) (sym c.index.ensures)
    ∙ ap (λ b. b && rest) (sym c.is_pure_at.ensures ∙ c.if-not-is_pure_at.true))

pub are_pure_ranges-loop-range-preserved : goal.are_pure_ranges-loop-range-preserved
are_pure_ranges-loop-range-preserved t c =
    let arms = c.args.arms.now in
    let purities = arm_purities (arms_of arms) in
    let rest = listed_by_ranges purities (drop (c.loop-range.range-index + 1) c.args.ranges.now) in
    c.loop-range.invariant ∙ ranges-drop purities c.args.ranges.now c.loop-range.range-index _ c.loop-range-test.true
    ∙ ap (λ b. b && rest) (arm-get arms _)
    ∙ ap (λ (i : ℕ). is_pure_if_any (slice_get arms i) && rest) (sym c.index.ensures)
    ∙ ap (λ b. b && rest) (sym c.is_pure_at.ensures ∙ c.if-not-is_pure_at.false)
