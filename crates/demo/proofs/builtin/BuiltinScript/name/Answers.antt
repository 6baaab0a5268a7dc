use Rattle.std.proofs.Common.{rules}
use Rattle.demo.proofs.builtin.BuiltinScript.name.Goals as goal

pub returns-in-Divide : goal.returns-in-Divide
returns-in-Divide c = search (rules)
