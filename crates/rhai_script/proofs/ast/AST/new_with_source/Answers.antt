use Rattle.std.proofs.Common.{rules}
use Rattle.rhai_script.proofs.ast.AST.new_with_source.Goals as goal

pub returns : goal.returns
returns c = search rules
