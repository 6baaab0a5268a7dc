use Rattle.std.proofs.Common.{◌≡◌, ◌≤◌, ◌++◌, drop}
use Rattle.ast_alike.specs.Gaps.{gaps_from, gaps_after}
use Rattle.ast_alike.proofs.marks.gaps_of.Given as goal

abbrev pub invariant-loop-is_listed : goal.invariant-loop-is_listed
invariant-loop-is_listed l =
    (l.before.items ++ gaps_from l.all (drop l.is_listed-index l.marks) ≡ gaps_from 0 l.marks)
    × ((gaps_after l.all (drop l.is_listed-index l.marks) ≡ gaps_after 0 l.marks) × (l.all ≤ l.is_listed-index))
