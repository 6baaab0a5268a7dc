use Rattle.std.proofs.Common.{rules}
use Rattle.rhai_script.proofs.ast.AST.with_all_of.Goals as goal

pub returns : goal.returns
returns c = search rules
