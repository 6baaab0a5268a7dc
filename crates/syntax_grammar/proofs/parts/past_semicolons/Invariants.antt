use Rattle.std.proofs.Common.{◌≡◌, false, drop}
use Rattle.theory_grammar.specs.Statements.{Parted}
use Rattle.syntax_grammar.proofs.parts.past_semicolons.Given as goal

abbrev pub invariant-loop : goal.invariant-loop
invariant-loop l = Parted false (drop l.at l.text) (drop l.place l.text) × (l.lacking ≡ false → Parted l.owed (drop l.at l.text) (drop l.place l.text))
