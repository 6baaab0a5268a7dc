use Rattle.std.proofs.Common.{◌&&◌, refl, sym, ap, ◌∙◌}
use Rattle.std.proofs.lemmas.Result.{IfOk-weaker}
use Rattle.ast_types.specs.Reading.{expr_of, stmts_of}
use Rattle.ast_types.proofs.Cases.{expr_cases}
use Rattle.opt_stmts.specs.SettledChoices.{goes_on, is_bare_if_alone}
use Rattle.opt_stmts.proofs.Nesting.{joined_as, without_else, nests_as}
use Rattle.opt_stmts.proofs.OtherChoices.{not_and, no_operands}
use Rattle.opt_stmts.proofs.choice.nested.join_ifs.Goals as goal

pub returns-then-not-is_empty-clause-answer : goal.returns-then-not-is_empty-clause-answer
returns-then-not-is_empty-clause-answer c = ap (λ z. z && (goes_on (expr_of c.args.flow.now.expr) && is_bare_if_alone (stmts_of c.args.flow.now.body.block))) c.if-not-is_empty.ensures

pub nested_if-requires-clause-alone : goal.nested_if-requires-clause-alone
nested_if-requires-clause-alone c = sym (not_and (expr_cases c.args.flow.now.expr) c.in_default.not-And)

pub returns-in_default : goal.returns-in_default
returns-in_default c =
    let flow = c.args.flow.now in
    let e = c.if-not-is_empty.ensures in
    let body = stmts_of flow.body.block in
    let branch = stmts_of flow.branch.block in
    record {
      answer = IfOk-weaker c.nested_if.result _ _ (λ j h. h ∙ ap (λ z. z && is_bare_if_alone body) (no_operands (expr_cases flow.expr) c.in_default.not-And) ∙ nests_as (expr_of flow.expr) body branch e refl) c.nested_if.ensures.answer;
      rule = IfOk-weaker c.nested_if.result _ _ (λ j h. joined_as j (without_else (expr_of flow.expr) body branch e refl) (without_else (expr_of c.nested_if.new.condition) (stmts_of c.nested_if.new.body.block) branch e refl) h) c.nested_if.ensures.rule;
    }
