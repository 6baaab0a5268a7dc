use Rattle.std.proofs.Common.{◌∙◌}
use Rattle.ast_alike.proofs.Captured.{not_two_closure}
use Rattle.ast_alike.proofs.captures.closure_among.Goals as goal

pub returns-then-len-ne2 : goal.returns-then-len-ne2
returns-then-len-ne2 c = not_two_closure c.args.stmts (λ q. c.if-len-ne2.true (c.len.ensures ∙ q))
