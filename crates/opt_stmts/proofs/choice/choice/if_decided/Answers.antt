use Rattle.std.proofs.Common.{◌≡◌, refl, ap, ◌∙◌}
use Rattle.std.proofs.lemmas.Result.{IfOk-weaker}
use Rattle.ast_types.specs.declared.stmt.Stmt.{Stmt}
use Rattle.ast_types.specs.Reading.{stmt_of, stmts_of}
use Rattle.theory_rewriting.specs.Rules.{if_decided, block_or_noop}
use Rattle.theory_rewriting.proofs.Keeping.{keeps_chosen}
use Rattle.opt_base.proofs.Stepping.{stmt_rewrite_as}
use Rattle.opt_stmts.proofs.choice.choice.if_decided.Goals as goal

pub returns : goal.returns
returns c =
    let P : Stmt → Type 0 = λ s. stmt_of s ≡ block_or_noop (stmts_of c.chosen-block.result.block) in
    IfOk-weaker _ P _ (λ s x o w. stmt_rewrite_as refl (x ∙ ap block_or_noop c.chosen-block.ensures) (record { rule = λ k. if_decided c.requires; keeps = λ i. keeps_chosen _ _ _ _ })) c.block_or_noop.ensures
