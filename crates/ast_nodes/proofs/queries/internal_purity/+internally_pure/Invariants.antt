use Rattle.std.proofs.Common.{◌≡◌, drop}
use Rattle.theory_meaning.specs.Queries.{are_internally_pure}
use Rattle.ast_types.specs.Reading.{stmts_of}
use Rattle.ast_nodes.proofs.queries.internal_purity.+internally_pure.Given as goal

abbrev pub invariant-are_internally_pure-loop-stmt : goal.invariant-are_internally_pure-loop-stmt
invariant-are_internally_pure-loop-stmt l = are_internally_pure (stmts_of l.statements) ≡ are_internally_pure (stmts_of (drop l.stmt-index l.statements))
