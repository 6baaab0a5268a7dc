use Rattle.std.proofs.Common.{sym, ap, ◌∙◌}
use Rattle.ast_types.specs.declared.block.StmtBlock.{StmtBlock}
use Rattle.ast_types.specs.declared.expr.Expr.{Expr}
use Rattle.theory_meaning.specs.Tree.{And, If, expr, no_exprs, no_stmts}
use Rattle.ast_types.specs.Reading.{expr_of, stmts_of}
use Rattle.opt_stmts.specs.SettledChoices.{is_bare_if_alone}
use Rattle.opt_stmts.proofs.Nesting.{nested_made}
use Rattle.opt_stmts.proofs.choice.nested.nested_if.Goals as goal

pub returns-in_ok-joined-in-Some-clause-answer : goal.returns-in_ok-joined-in-Some-clause-answer
returns-in_ok-joined-in-Some-clause-answer c = sym (ap is_bare_if_alone c.in-Some.ensures)

pub returns-in_ok-joined-in-Some-clause-rule : goal.returns-in_ok-joined-in-Some-clause-rule
returns-in_ok-joined-in-Some-clause-rule c =
    let inner = expr_of c.in-Some.inner in
    let joined = ap expr_of c.put_expr.ensures ∙ c.in_ok-joined-in-Some.ensures ∙ ap (λ (e : Expr). And (expr (expr_of e) (expr inner no_exprs))) c.take.ensures.taken in
    nested_made (expr_of c.args.condition.now) inner _ c.requires.undecided c.requires.alone c.in-Some.ensures joined

pub returns-in-None-clause-answer : goal.returns-in-None-clause-answer
returns-in-None-clause-answer c = sym c.in-None.ensures.0

pub returns-in-None-clause-rule : goal.returns-in-None-clause-rule
returns-in-None-clause-rule c = ap (λ (b : StmtBlock). If (expr_of c.args.condition.now) (stmts_of b.block) no_stmts) c.in-None.ensures.1
