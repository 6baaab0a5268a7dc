use Rattle.ast_alike.proofs.Captured.{few_integers, more_integers}
use Rattle.ast_alike.proofs.captures.are_two_integers.Goals as goal

pub returns-in_default : goal.returns-in_default
returns-in_default c = few_integers c.args.args.now c.in_default.len_below

pub returns-in_default-2 : goal.returns-in_default-2
returns-in_default-2 c = more_integers c.args.args.now c.in_default.len_at_least
