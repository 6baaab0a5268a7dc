use Rattle.std.proofs.Common.{◌≡◌, length, take}
use Rattle.ast_types.specs.Reading.{arms_of}
use Rattle.opt_switch.specs.Forgetting.{forgets, loses_answers}
use Rattle.opt_switch.proofs.forget.forget_answers.Given as goal

abbrev pub invariant-loop-place : goal.invariant-loop-place
invariant-loop-place l = (arms_of l.arms ≡ forgets (take l.place l.marks) (arms_of l.initial.arms)) × ((l.loses ≡ loses_answers (take l.place l.marks) (arms_of l.initial.arms)) × (length l.arms ≡ length l.initial.arms))
