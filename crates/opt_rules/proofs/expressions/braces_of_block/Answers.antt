use Rattle.std.proofs.Common.{◌<◌, refl, subst}
use Rattle.opt_base.specs.Places.{place_of}
use Rattle.opt_rules.proofs.Shapes.{many_stay}
use Rattle.opt_rules.proofs.expressions.braces_of_block.Goals as goal

pub returns-then-len-gt1 : goal.returns-then-len-gt1
returns-then-len-gt1 c = (refl, many_stay (place_of c.args.place) _ (subst (λ n. 1 < n) c.len.ensures c.if-len-gt1.true))
