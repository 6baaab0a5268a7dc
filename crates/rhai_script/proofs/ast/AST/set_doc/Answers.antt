use Rattle.std.proofs.Common.{rules}
use Rattle.rhai_script.proofs.ast.AST.set_doc.Goals as goal

pub returns-clause-ok : goal.returns-clause-ok
returns-clause-ok c = search rules
