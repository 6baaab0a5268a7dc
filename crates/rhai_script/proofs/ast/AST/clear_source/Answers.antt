use Rattle.std.proofs.Common.{rules}
use Rattle.rhai_script.proofs.ast.AST.clear_source.Goals as goal

pub returns : goal.returns
returns c = search rules
