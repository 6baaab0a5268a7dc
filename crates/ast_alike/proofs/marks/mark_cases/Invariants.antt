use Rattle.std.proofs.Common.{◌≡◌, map}
use Rattle.theory_meaning.specs.Walk.{arms_of_cases}
use Rattle.ast_types.specs.Reading.{case_of}
use Rattle.theory_spelling.specs.Listed.{marked}
use Rattle.ast_alike.proofs.marks.mark_cases.Given as goal

abbrev pub invariant-loop-case : goal.invariant-loop-case
invariant-loop-case l = marked l.initial.marks.items (arms_of_cases (map case_of l.cases)) ≡ marked l.marks.items (arms_of_cases (map case_of l.case-iterator))
