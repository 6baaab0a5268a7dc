use Rattle.std.proofs.Common.{◌≡◌, length}
use Rattle.base_tokens.specs.Names.{is_identifier}
use Rattle.syntax_grammar.proofs.names.is_identifier.Given as goal

abbrev pub invariant-loop-first : goal.invariant-loop-first
invariant-loop-first l = is_identifier l.name ≡ is_identifier l.rest

abbrev pub decreases-loop-first : goal.decreases-loop-first
decreases-loop-first l = length l.rest
