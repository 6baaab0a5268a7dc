use Rattle.std.proofs.Common.{rules}
use Rattle.rhai_script.proofs.ast.AST.set_source.Goals as goal

pub returns-in_err-self-clause-err : goal.returns-in_err-self-clause-err
returns-in_err-self-clause-err c = search rules
