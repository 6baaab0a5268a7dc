use Rattle.std.proofs.Common.{arith}
use Rattle.std.proofs.lemmas.Grind.{common_steps}
use Rattle.ast_types.specs.Reading.{shapes}
use Rattle.notation_print.proofs.TableLists.{tables}
use Rattle.notation_print.proofs.tables.push_range.Goals as goal

pub returns-in_ok-write-in-ExclusiveInt : goal.returns-in_ok-write-in-ExclusiveInt
returns-in_ok-write-in-ExclusiveInt c = grind (arith, common_steps, shapes, tables)

pub returns-in_ok-write-in-InclusiveInt : goal.returns-in_ok-write-in-InclusiveInt
returns-in_ok-write-in-InclusiveInt c = grind (arith, common_steps, shapes, tables)

pub returns-in_ok-write-in-InclusiveInt-2 : goal.returns-in_ok-write-in-InclusiveInt-2
returns-in_ok-write-in-InclusiveInt-2 c = grind (arith, common_steps, shapes, tables)
