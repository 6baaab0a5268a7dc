use Rattle.ast_alike.proofs.Captured.{few_closure, more_closure, two_closure}
use Rattle.std.proofs.Common.{◌∙◌}
use Rattle.ast_alike.proofs.captures.are_closure.Goals as goal

pub returns-in-len2 : goal.returns-in-len2
returns-in-len2 c = c.is_share.ensures ∙ two_closure c.args.stmts.now c.first-item.result c.in-len2.len_at_least c.in-len2.len_below c.first-item.is

pub returns-in_default : goal.returns-in_default
returns-in_default c = few_closure c.args.stmts.now c.in_default.len_below

pub returns-in_default-2 : goal.returns-in_default-2
returns-in_default-2 c = more_closure c.args.stmts.now c.in_default.len_at_least
