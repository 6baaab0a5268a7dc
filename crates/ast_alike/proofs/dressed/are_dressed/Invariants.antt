use Rattle.ast_alike.specs.Dressed.{AreDressed}
use Rattle.ast_alike.proofs.dressed.are_dressed.Given as goal

-- where those that are left are there, all are
abbrev pub invariant-loop-function : goal.invariant-loop-function
invariant-loop-function l =
    AreDressed l.first.functions l.function-iterator
    → AreDressed l.first.functions l.initial.function-iterator
