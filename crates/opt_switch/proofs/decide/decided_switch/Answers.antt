use Rattle.std.proofs.Common.{◌≡◌, Option, sym, ◌∙◌, subst}
use Rattle.std.specs.Option.{option_map}
use Rattle.std.proofs.lemmas.Result.{IfOk-weaker}
use Rattle.ast_types.specs.declared.stmt.Stmt.{Stmt}
use Rattle.ast_types.specs.Reading.{arms_of, cases_of, expr_of, expressions_of, stmt_of, subject_of, table_of}
use Rattle.theory_meaning.specs.Tree.{ExprStmt}
use Rattle.theory_rewriting.specs.Rules.{StmtRule}
use Rattle.theory_rewriting.specs.Tables.{arm_of, answer_of_arm, default_answer}
use Rattle.opt_switch.specs.Deciding.{if_of}
use Rattle.opt_switch.specs.Steps.{switch_of}
use Rattle.opt_switch.proofs.Decided.{as_made, answers, is_if, defaults, not_default_too}
use Rattle.opt_switch.proofs.decide.decided_switch.Goals as goal

pub switch_is_if-requires : goal.switch_is_if-requires
switch_is_if-requires c =
    let k = c.args.switch.now in
    not_default_too (expr_of (subject_of k)) (arms_of (expressions_of (cases_of k))) (table_of (cases_of k)) c.in-Only.place (sym c.in_ok-choice_over.ensures ∙ c.in-Only.is)

pub returns-in_ok-switch_defaults-in-Nothing : goal.returns-in_ok-switch_defaults-in-Nothing
returns-in_ok-switch_defaults-in-Nothing c = λ r w.
    let k = c.args.switch.now in
    subst (λ y. StmtRule r w (switch_of k) y) (sym c.in_ok-switch_defaults-in-Nothing.ensures)
    (defaults (expr_of (subject_of k)) (arms_of (expressions_of (cases_of k))) (table_of (cases_of k)) (sym c.in_ok-choice_over.ensures ∙ c.in-Nothing.is) r w)

pub returns-in-Answer : goal.returns-in-Answer
returns-in-Answer c =
    let k = c.args.switch.now in
    let as' = arms_of (expressions_of (cases_of k)) in
    IfOk-weaker _ (λ (o : Option Stmt). option_map stmt_of o ≡ option_map ExprStmt (answer_of_arm (arm_of as' c.in-Answer.place))) _
    (λ o e. as_made _ _ (switch_of k) _ e (answers (expr_of (subject_of k)) as' (table_of (cases_of k)) c.in-Answer.place _ (sym c.in_ok-choice_over.ensures ∙ c.in-Answer.is))) c.switch_answers.ensures

pub returns-in-Only : goal.returns-in-Only
returns-in-Only c =
    let k = c.args.switch.now in
    let as' = arms_of (expressions_of (cases_of k)) in
    let t = table_of (cases_of k) in
    IfOk-weaker _ (λ (o : Option Stmt). option_map stmt_of o ≡ option_map (if_of (default_answer as' t.default)) (arm_of as' c.in-Only.place)) _
    (λ o e. as_made _ _ (switch_of k) _ e (is_if (expr_of (subject_of k)) as' t c.in-Only.place _ (sym c.in_ok-choice_over.ensures ∙ c.in-Only.is))) c.switch_is_if.ensures
