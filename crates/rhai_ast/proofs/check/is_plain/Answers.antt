use Rattle.std.proofs.Common.{rules}
use Rattle.rhai_ast.proofs.FoundLists.{found}
use Rattle.rhai_ast.proofs.check.is_plain.Goals as goal

pub returns-then-are_plain : goal.returns-then-are_plain
returns-then-are_plain c = search (rules, found)
