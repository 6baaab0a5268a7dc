use Rattle.std.proofs.Common.{refl}
use Rattle.opt_stmts.specs.SettledStatements.{are_settled}
use Rattle.opt_stmts.proofs.Shapes.{settled-long}
use Rattle.opt_stmts.proofs.block.are_settled.Goals as goal

pub returns-in_default : goal.returns-in_default
returns-in_default c = settled-long are_settled (λ s t ss. refl) _ c.in_default.len_at_least
