use Rattle.std.proofs.Common.{rules}
use Rattle.rhai_script.proofs.ast.AST.retain_functions.Goals as goal

pub returns-clause-ok : goal.returns-clause-ok
returns-clause-ok g c = search rules
