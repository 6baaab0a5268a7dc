use Rattle.std.proofs.Common.{◌≡◌, rules, true, false, refl, sym, ap, ◌∙◌}
use Rattle.ast_types.specs.declared.stmt.FlowControl.{FlowControl}
use Rattle.ast_types.specs.Reading.{shapes, stmt_of, stmt_of-While}
use Rattle.ast_types.proofs.Cases.{stmt_cases}
use Rattle.opt_stmts.specs.Flows.{loop_of}
use Rattle.opt_stmts.proofs.FiredStatements.{fires_as}
use Rattle.opt_stmts.proofs.OtherStatements.{no_while}
use Rattle.opt_stmts.proofs.loops.step_while.Goals as goal

pub returns-in-Some-true-clause-step : goal.returns-in-Some-true-clause-step
returns-in-Some-true-clause-step c =
    λ r w. fires_as (ap stmt_of c.in-While.is ∙ stmt_of-While _ _ ∙ ap (λ (f : FlowControl). loop_of f) (sym (c.get_mut.ensures.value ∙ c.in-While.flow-is))) (search (rules, shapes)) (c.while_true.ensures r w)

pub returns-in-Some-false-clause-step : goal.returns-in-Some-false-clause-step
returns-in-Some-false-clause-step c = λ r w. fires_as (ap stmt_of c.in-While.is ∙ stmt_of-While _ _ ∙ sym (search (rules, shapes))) refl (c.while_false.ensures r w)

pub returns-in_default : goal.returns-in_default
returns-in_default c = absurd (let z : false ≡ true = no_while (stmt_cases c.args.statement.now) c.in_default.not-While ∙ c.requires in cc)
