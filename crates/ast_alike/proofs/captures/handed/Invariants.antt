use Rattle.std.proofs.Common.{◌≡◌, length}
use Rattle.theory_spelling.specs.Captures.{handed}
use Rattle.ast_types.specs.Reading.{stmts_of}
use Rattle.ast_alike.specs.Closures.{closure_of}
use Rattle.ast_alike.proofs.captures.handed.Given as goal

-- what is left decides
abbrev pub invariant-loop-last : goal.invariant-loop-last
invariant-loop-last l = handed (stmts_of l.rest) (closure_of l.closure) ≡ handed (stmts_of l.constants) (closure_of l.fn.closure)

abbrev pub decreases-loop-last : goal.decreases-loop-last
decreases-loop-last l = length l.rest
