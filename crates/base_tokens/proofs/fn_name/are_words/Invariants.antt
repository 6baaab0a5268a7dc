use Rattle.std.proofs.Common.{◌≡◌, drop}
use Rattle.base_tokens.specs.Names.{are_all, is_word}
use Rattle.base_tokens.proofs.fn_name.are_words.Given as goal

abbrev pub invariant-loop-c : goal.invariant-loop-c
invariant-loop-c l = are_all is_word l.name ≡ are_all is_word (drop l.c-index l.name)
