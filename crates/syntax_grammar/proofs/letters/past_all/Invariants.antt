use Rattle.std.proofs.Common.{◌≡◌, ℕ, List, drop, ◌++◌}
use Rattle.syntax_grammar.proofs.letters.past_all.Given as goal

-- what is left to be looked at decides
abbrev pub invariant-loop-letter : goal.invariant-loop-letter
invariant-loop-letter l = (rest : List ℕ) → drop l.place l.text ≡ drop l.letter-index l.letters ++ rest → drop l.at l.text ≡ l.letters ++ rest
