use Rattle.std.proofs.Common.{◌≡◌, drop}
use Rattle.theory_grammar.specs.Words.{behind_block}
use Rattle.syntax_grammar.proofs.blanks.block_end.Given as goal

abbrev pub invariant-loop : goal.invariant-loop
invariant-loop l = behind_block l.depth (drop l.place l.text) ≡ behind_block 1 (drop l.at l.text)
