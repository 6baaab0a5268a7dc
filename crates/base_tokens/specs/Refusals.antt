-- The numbers of refusals and of what is wrong with a tree.
use Rattle.std.specs.Prelude.{ℕ}
use Rattle.base_tokens.specs.declared.error.AstError.{AstError}
use Rattle.base_tokens.specs.declared.error.TreeFault.{TreeFault}
use Rattle.base_tokens.specs.declared.error.TreeFault.TheVariants as fault
use Rattle.base_tokens.specs.declared.error.AstError.TheVariants.{NotAnOpAssignment, NotABaseOperator, SwitchIndex, SwitchDefaultCondition, SwitchDefaultShared, SwitchKey}

abbrev pub number_of : AstError → ℕ
number_of NotAnOpAssignment = 2
number_of NotABaseOperator = 3
number_of SwitchIndex = 4
number_of SwitchDefaultCondition = 5
number_of SwitchDefaultShared = 6
number_of SwitchKey = 7

abbrev pub number_of_fault : TreeFault → ℕ
number_of_fault fault.DuplicateMapKey = 20
number_of_fault fault.MapTemplate = 21
number_of_fault fault.NoOperands = 22
number_of_fault fault.UnitConstant = 23
number_of_fault fault.BreakOutsideLoop = 24
number_of_fault fault.ReservedName = 25
number_of_fault fault.ChainShape = 26
number_of_fault fault.AssignTarget = 27
number_of_fault fault.OperatorName = 28
number_of_fault fault.CatchName = 29
number_of_fault fault.OutOfMemory = 30
number_of_fault fault.SwitchTable = 31
