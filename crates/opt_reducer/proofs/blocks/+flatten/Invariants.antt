use Rattle.std.proofs.Common.{◌+◌, ◌*◌, length}
use Rattle.opt_base.specs.State.{progress}
use Rattle.ast_types.specs.Reading.{stmt_of, stmts_of}
use Rattle.theory_meaning.specs.Weight.{stmt_weight, weight}
use Rattle.opt_reducer.proofs.Flattening.{MovesSoFar}
use Rattle.opt_reducer.proofs.blocks.+flatten.Given as goal

abbrev pub decreases-block_gives_way : goal.decreases-block_gives_way
decreases-block_gives_way l = 3 * weight (stmts_of l.block.block) + 2

abbrev pub decreases-flatten_statement : goal.decreases-flatten_statement
decreases-flatten_statement l = 3 * stmt_weight (stmt_of l.statement)

abbrev pub decreases-flatten_statements : goal.decreases-flatten_statements
decreases-flatten_statements l = 3 * weight (stmts_of l.rest.statements) + 1

abbrev pub invariant-flatten_statements-loop-statement : goal.invariant-flatten_statements-loop-statement
invariant-flatten_statements-loop-statement l = MovesSoFar l.is_wanted (progress l.initial.state) (progress l.state) l.initial.rest.statements l.rest.statements (stmts_of l.initial.done) (stmts_of l.done)

abbrev pub decreases-flatten_statements-loop-statement : goal.decreases-flatten_statements-loop-statement
decreases-flatten_statements-loop-statement l = length l.rest.statements
