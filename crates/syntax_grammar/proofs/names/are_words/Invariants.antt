use Rattle.std.proofs.Common.{◌≡◌, drop}
use Rattle.base_tokens.specs.Names.{are_all, is_word}
use Rattle.syntax_grammar.proofs.names.are_words.Given as goal

abbrev pub invariant-loop-letter : goal.invariant-loop-letter
invariant-loop-letter l = are_all is_word l.name ≡ are_all is_word (drop l.letter-index l.name)
