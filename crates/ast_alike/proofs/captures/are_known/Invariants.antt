use Rattle.std.proofs.Common.{◌≡◌, drop}
use Rattle.theory_spelling.specs.Captures.{are_known}
use Rattle.ast_types.specs.Reading.{stmts_of}
use Rattle.ast_alike.proofs.captures.are_known.Given as goal

abbrev pub invariant-loop-stmt : goal.invariant-loop-stmt
invariant-loop-stmt l = are_known (stmts_of l.stmts) ≡ are_known (stmts_of (drop l.stmt-index l.stmts))
