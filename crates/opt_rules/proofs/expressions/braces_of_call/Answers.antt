use Rattle.std.proofs.Common.{◌≡◌, true, false, sym, ap, ◌∙◌}
use Rattle.ast_types.specs.Reading.{stmt_of, stmt_of-FnCall, expr_of-FnCall}
use Rattle.ast_types.specs.declared.stmt.Stmt.{Stmt}
use Rattle.ast_types.proofs.Cases.{stmt_cases}
use Rattle.theory_meaning.specs.Queries.{is_block_dependent}
use Rattle.theory_meaning.specs.Tree.{BlockExpr, no_stmts, stmt}
use Rattle.opt_base.proofs.Stepping.{expr_rewrite_as}
use Rattle.opt_rules.specs.Settled.{is_call_statement}
use Rattle.opt_rules.proofs.Kept.{no_call_statement}
use Rattle.opt_rules.proofs.Shapes.{call_becomes}
use Rattle.opt_rules.proofs.expressions.braces_of_call.Goals as goal

pub unreachable-requires : goal.unreachable-requires
unreachable-requires c =
    let z : false ≡ true = sym (no_call_statement (stmt_cases c.take.result) c.in_default.not-FnCall) ∙ ap (λ (s : Stmt). is_call_statement (stmt_of s)) c.take.ensures.taken ∙ c.requires in cc

pub returns : goal.returns
returns c =
    let x = ap stmt_of (sym c.take.ensures.taken ∙ c.in-FnCall.is) ∙ stmt_of-FnCall _ _ in
    λ p. expr_rewrite_as (ap (λ s. BlockExpr (stmt s no_stmts)) x) (expr_of-FnCall _ _) (call_becomes p _ _ (sym (ap is_block_dependent x) ∙ sym c.is_block_dependent.ensures.value ∙ c.if-is_block_dependent.false))
