use Rattle.std.proofs.Common.{Some, ap, ◌∙◌}
use Rattle.ast_types.specs.declared.expr.Expr.{Expr}
use Rattle.ast_types.specs.Reading.{expr_of}
use Rattle.theory_rewriting.specs.Tables.{answer_of_arm}
use Rattle.opt_switch.proofs.ArmPlaces.{arm_there, arm_missing, arm_stays}
use Rattle.opt_switch.proofs.arms.take_answer.Goals as goal

pub returns-in-Some-clause-answer : goal.returns-in-Some-clause-answer
returns-in-Some-clause-answer c = ap (λ (x : Expr). Some (expr_of x)) c.take.ensures.taken ∙ ap answer_of_arm (arm_there c.args.arms.now c.args.place c.in-Some.arm.now c.in-Some.ensures.value.0 c.in-Some.ensures.value.1)

pub returns-in-Some-clause-others : goal.returns-in-Some-clause-others
returns-in-Some-clause-others c = λ i h. arm_stays c.args.arms.now c.args.place i _ h

pub returns-in-None-clause-answer : goal.returns-in-None-clause-answer
returns-in-None-clause-answer c = ap answer_of_arm (arm_missing c.args.arms.now c.args.place c.in-None.ensures.value)
