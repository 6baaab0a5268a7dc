use Rattle.std.proofs.Common.{rules}
use Rattle.rhai_ast.proofs.switch.SwitchCasesCollectionSwitchCases.new.Goals as goal

pub returns-clause-made : goal.returns-clause-made
returns-clause-made c = search rules
