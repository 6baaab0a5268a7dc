use Rattle.rhai_script.proofs.Tests.{fails_with}
use Rattle.rhai_script.proofs.ast.AST.is_plain.Goals as goal

pub returns-else-is_plain : goal.returns-else-is_plain
returns-else-is_plain c = fails_with _ _ c.is_plain.result (rw c.statements.ensures at c.is_plain.ensures) c.if-is_plain.false
