use Rattle.std.proofs.Common.{◌≡◌, ◌++◌, map}
use Rattle.ast_alike.proofs.Entries.{Members, blank}
use Rattle.ast_alike.proofs.constants.template_of.Given as goal

abbrev pub invariant-loop-key : goal.invariant-loop-key
invariant-loop-key l = (done : Members) × (l.members ≡ done ++ l.key-iterator) × (l.template ≡ map blank done)
