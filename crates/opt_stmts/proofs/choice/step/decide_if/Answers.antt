use Rattle.std.proofs.Common.{refl, sym, ap, ◌∙◌}
use Rattle.ast_types.specs.declared.stmt.FlowControl.{FlowControl}
use Rattle.ast_types.specs.Reading.{stmt_of, stmt_of-If}
use Rattle.ast_types.proofs.Cases.{stmt_cases}
use Rattle.opt_base.proofs.Stepping.{rewrite_decided, stmt_rewrite_as}
use Rattle.opt_stmts.specs.Flows.{if_of}
use Rattle.opt_stmts.proofs.OtherChoices.{stays}
use Rattle.opt_stmts.proofs.choice.step.decide_if.Goals as goal

pub returns-in-Some-clause-step : goal.returns-in-Some-clause-step
returns-in-Some-clause-step c =
    let x = ap stmt_of c.in-If.is ∙ stmt_of-If _ _ ∙ ap (λ (f : FlowControl). if_of f) (sym (c.get_mut.ensures.value ∙ c.in-If.flow-is)) in
    λ r. rewrite_decided c.put_made.ensures.dirty c.put_made.ensures.known (stmt_rewrite_as x (ap stmt_of c.put_made.ensures.made) (rw c.in-Some.is at c.in_ok-made-in-If.ensures).2)

pub returns-in_default : goal.returns-in_default
returns-in_default c = record { answer = stays (stmt_cases c.args.statement.now) c.in_default.not-If; step = λ r. (refl, refl) }
