use Rattle.theory_rewriting.specs.Rules.{block_of_statement}
use Rattle.theory_rewriting.proofs.Keeping.{keeps_only}
use Rattle.opt_stmts.proofs.block.block_of_statement.Goals as goal

pub returns : goal.returns
returns c = λ o w. record { rule = λ k. block_of_statement c.requires; keeps = λ h. keeps_only _ }
