use Rattle.std.proofs.Common.{◌≡◌, drop}
use Rattle.theory_grammar.specs.Covered.{statements_are_covered}
use Rattle.ast_types.specs.Reading.{stmts_of}
use Rattle.syntax_grammar.proofs.covered.+covered_statements.Given as goal

abbrev pub invariant-are_statements_covered-loop-statement : goal.invariant-are_statements_covered-loop-statement
invariant-are_statements_covered-loop-statement l = statements_are_covered (stmts_of l.statements) ≡ statements_are_covered (stmts_of (drop l.statement-index l.statements))
