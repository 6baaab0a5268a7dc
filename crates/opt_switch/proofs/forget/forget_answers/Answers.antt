use Rattle.std.proofs.Common.{◌≡◌, ◌≤◌, ◌+◌, ◌∙◌, Some, false, take, length, get_or, refl, sym, ap, rules, add-one, arith}
use Rattle.std.specs.Prelude.{◌||◌, slice_get}
use Rattle.std.proofs.lemmas.List.{length-set}
use Rattle.ast_types.specs.Reading.{arms_of, expr_of}
use Rattle.opt_switch.specs.Forgetting.{loses_answer, loses_answers}
use Rattle.opt_switch.proofs.ArmPlaces.{arm_written, answer_there, forgets_all, loses_all, mark_there}
use Rattle.opt_switch.proofs.Forgotten.{untouched, no_marks_lose, put, put_next, loses_next, answer_in}
use Rattle.opt_switch.proofs.forget.forget_answers.Goals as goal
use Rattle.opt_switch.proofs.forget.forget_answers.Goals.{in-Some, in_default}

pub loop-place-init : goal.loop-place-init
loop-place-init c = (sym (untouched (arms_of c.args.arms.now)), (sym (no_marks_lose (arms_of c.args.arms.now)), refl))

pub loop-place-preserved : goal.loop-place-preserved
loop-place-preserved c =
    let n = c.loop-place.place in
    let bs = c.loop-place.arms in
    let ms = c.args.marks.now in
    let as' = arms_of c.args.arms.now in
    let m = get_or ms n false in
    let there : slice_get ms n ≡ Some m = mark_there ms n m c.loop-place-test.true (search rules) in
    elim c.match-get_mut.branch [
      | in-Some w ↦
          let b = w.in-Some.arm.now in
          let here = w.in-Some.ensures.value in
          let f = w.forget-loses in
          let lost : loses_answer m (expr_of b.rhs) ≡ loses_answer m (answer_in (arms_of bs) n) = ap (loses_answer m) (answer_there bs n b here.0 here.1) in
          let or_is : c.match-get_mut.loses ≡ (c.loop-place.loses || f.result) = search rules in
          rw (add-one) (
            ap arms_of w.arms-is ∙ arm_written bs n b f.new.arm m here.0 here.1 f.ensures.condition f.ensures.answer ∙ ap (put n m) c.loop-place.invariant.0 ∙ put_next ms as' n m there,
            (
              or_is
                  ∙ ap (λ x. x || f.result) c.loop-place.invariant.1.0
                  ∙ ap (λ x. loses_answers (take n ms) as' || x) (f.ensures.loses ∙ lost ∙ ap (λ y. loses_answer m (answer_in y n)) c.loop-place.invariant.0)
                  ∙ sym (loses_next ms as' n m there),
              ap length w.arms-is ∙ length-set bs n f.new.arm ∙ c.loop-place.invariant.1.1,
            ),
          )
      | in_default w ↦
          let past : length bs ≤ n = search rules in
          let few : length c.args.arms.now ≤ n = omega (arith, past, c.loop-place.invariant.1.1) in
          let more : length c.args.arms.now ≤ n + 1 = omega (arith, few) in (
            ap arms_of w.arms-is ∙ c.loop-place.invariant.0 ∙ forgets_all ms c.args.arms.now n few ∙ sym (forgets_all ms c.args.arms.now (n + 1) more),
            (
              w.loses-is ∙ c.loop-place.invariant.1.0 ∙ loses_all ms c.args.arms.now n few ∙ sym (loses_all ms c.args.arms.now (n + 1) more),
              ap length w.arms-is ∙ c.loop-place.invariant.1.1,
            ),
          )
    ]
