use Rattle.std.proofs.Common.{◌≡◌, drop}
use Rattle.ast_types.specs.Reading.{stmts_of}
use Rattle.theory_rewriting.specs.Normal.{any_gives_way}
use Rattle.opt_reducer.proofs.blocks.any_gives_way.Given as goal

abbrev pub invariant-loop-statement : goal.invariant-loop-statement
invariant-loop-statement l = any_gives_way (stmts_of l.statements) ≡ any_gives_way (stmts_of (drop l.statement-index l.statements))
