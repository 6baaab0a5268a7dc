use Rattle.std.proofs.Common.{rules}
use Rattle.ast_types.specs.Reading.{shapes}
use Rattle.demo.proofs.builtin.BuiltinScript.statements.Goals as goal

pub returns-in-Empty : goal.returns-in-Empty
returns-in-Empty c = search (rules, shapes)
