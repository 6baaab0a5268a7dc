use Rattle.std.proofs.Common.{rules}
use Rattle.rhai_script.proofs.ast.ASTClone.clone.Goals as goal

pub returns : goal.returns
returns c = search rules
