use Rattle.std.proofs.Common.{◌≡◌, drop}
use Rattle.theory_meaning.specs.Queries.{are_all_dependent}
use Rattle.ast_types.specs.Reading.{stmts_of}
use Rattle.ast_nodes.proofs.queries.block_dependence.+dependent.Given as goal

abbrev pub invariant-are_all_dependent-loop-stmt : goal.invariant-are_all_dependent-loop-stmt
invariant-are_all_dependent-loop-stmt l = are_all_dependent (stmts_of l.statements) ≡ are_all_dependent (stmts_of (drop l.stmt-index l.statements))
