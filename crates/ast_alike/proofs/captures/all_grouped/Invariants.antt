use Rattle.std.proofs.Common.{◌≡◌, List, ◌++◌, length}
use Rattle.std.specs.Prelude.{reverse}
use Rattle.theory_spelling.specs.Captures.{all_grouped}
use Rattle.ast_types.specs.declared.stmt.Stmt.{Stmt}
use Rattle.ast_types.specs.Reading.{stmts_of}
use Rattle.ast_alike.proofs.captures.all_grouped.Given as goal

-- those that are taken are grouped
abbrev pub invariant-loop-stmt : goal.invariant-loop-stmt
invariant-loop-stmt l = (done : List Stmt) × (l.fn.stmts ≡ l.rest.items ++ done) × (stmts_of (reverse l.behind) ≡ all_grouped (stmts_of done))

abbrev pub decreases-loop-stmt : goal.decreases-loop-stmt
decreases-loop-stmt l = length l.rest.items
