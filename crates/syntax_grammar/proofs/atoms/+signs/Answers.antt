use Rattle.std.proofs.Common.{SFits, w64}
use Rattle.std.proofs.lemmas.Int.{to_z-of_z}
use Rattle.theory_grammar.specs.Grammar.{integer}
use Rattle.syntax_grammar.proofs.Steps.{behind_open}
use Rattle.syntax_grammar.proofs.atoms.+signs.Goals as goal

pub integer-returns-in-Some : goal.integer-returns-in-Some
integer-returns-in-Some t c =
    let fits : SFits w64 c.args.value = c.ranges.value in
    let stands = simp to_z-of_z at c.in-Some.ensures in
    behind_open c.opened-open.ensures (λ l. integer c.args.value stands)
