use Rattle.std.proofs.Common.{refl}
use Rattle.theory_rewriting.specs.Rules.{block_empty}
use Rattle.ast_types.specs.Reading.{stmt_of-Noop}
use Rattle.theory_rewriting.proofs.Keeping.{keeps_noop}
use Rattle.opt_base.proofs.Stepping.{stmt_rewrite_as}
use Rattle.opt_stmts.proofs.block.block_empty.Goals as goal

pub returns : goal.returns
returns c = λ o w. stmt_rewrite_as refl (stmt_of-Noop _) (record { rule = λ k. block_empty; keeps = λ h. keeps_noop _ })
