use Rattle.std.proofs.Common.{refl}
use Rattle.theory_rewriting.specs.Rules.{statement_of_call}
use Rattle.ast_types.specs.Reading.{stmt_of-FnCall}
use Rattle.theory_rewriting.proofs.Keeping.{keeps_call}
use Rattle.opt_base.proofs.Stepping.{stmt_rewrite_as}
use Rattle.opt_stmts.proofs.expression.statement_of_call.Goals as goal

pub returns : goal.returns
returns c = λ o w. stmt_rewrite_as refl (stmt_of-FnCall _ _) (record { rule = λ k. statement_of_call; keeps = λ h. keeps_call _ _ })
