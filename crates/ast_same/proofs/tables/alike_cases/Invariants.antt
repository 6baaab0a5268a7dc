use Rattle.std.proofs.Common.{◌≡◌, map}
use Rattle.ast_types.specs.Reading.{case_of}
use Rattle.ast_same.specs.Alike.{alike_cases}
use Rattle.ast_same.proofs.tables.alike_cases.Given as goal

abbrev pub invariant-loop-value : goal.invariant-loop-value
invariant-loop-value l = alike_cases (map case_of l.value-iterator) (map case_of l.rest) ≡ alike_cases (map case_of l.first) (map case_of l.second)
