use Rattle.std.proofs.Common.{◌≡◌, drop}
use Rattle.theory_meaning.specs.Queries.{is_any_dependent}
use Rattle.ast_types.specs.Reading.{stmts_of}
use Rattle.opt_reducer.proofs.blocks.is_any_dependent.Given as goal

abbrev pub invariant-loop-statement : goal.invariant-loop-statement
invariant-loop-statement l = is_any_dependent (stmts_of l.statements) ≡ is_any_dependent (stmts_of (drop l.statement-index l.statements))
