use Rattle.std.proofs.Common.{◌≡◌, refl}
use Rattle.std.proofs.lemmas.Result.{IfOk-weaker}
use Rattle.ast_types.specs.declared.stmt.Stmt.{Stmt}
use Rattle.ast_types.specs.Reading.{expr_of, stmt_of}
use Rattle.theory_rewriting.specs.Rules.{condition_alone}
use Rattle.opt_base.proofs.Stepping.{stmt_rewrite_as}
use Rattle.opt_stmts.proofs.Choosing.{bare_if}
use Rattle.opt_stmts.proofs.choice.choice.if_without_blocks.Goals as goal

pub returns : goal.returns
returns c =
    let P : Stmt → Type 0 = λ s. stmt_of s ≡ condition_alone c.args.wanted (expr_of c.args.expr) in
    IfOk-weaker _ P _ (λ s x. stmt_rewrite_as refl x (bare_if c.args.wanted _)) c.condition_alone.ensures
