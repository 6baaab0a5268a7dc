use Rattle.std.proofs.Common.{rules}
use Rattle.rhai_script.proofs.ast.AST.source.Goals as goal

pub returns-in-Some : goal.returns-in-Some
returns-in-Some c = search rules
