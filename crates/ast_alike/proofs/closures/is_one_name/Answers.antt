use Rattle.ast_alike.proofs.ByName.{several}
use Rattle.ast_alike.proofs.closures.is_one_name.Goals as goal

pub returns-in_default-2 : goal.returns-in_default-2
returns-in_default-2 c = several _ c.in_default.len_at_least
