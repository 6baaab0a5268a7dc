use Rattle.std.proofs.Common.{length}
use Rattle.script_queries.specs.Literals.{left_to}
use Rattle.script_queries.proofs.Seeking.{Passed}
use Rattle.script_queries.proofs.literals.LiteralVariablesIterator.next.Given as goal

abbrev pub invariant-loop-stmt : goal.invariant-loop-stmt
invariant-loop-stmt l = Passed (left_to l.fn.self) (left_to l.self)

abbrev pub decreases-loop-stmt : goal.decreases-loop-stmt
decreases-loop-stmt l = length l.self.statements.now
