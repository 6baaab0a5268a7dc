use Rattle.std.proofs.Common.{refl}
use Rattle.ast_types.specs.Reading.{expr_of}
use Rattle.ast_types.proofs.Cases.{expr_cases}
use Rattle.opt_chains.proofs.OtherChains.{nothing_left}
use Rattle.opt_chains.proofs.chain.onward.chain_goes_on.Goals as goal

pub returns-in_default : goal.returns-in_default
returns-in_default c = (refl, nothing_left (expr_cases c.args.right.now) c.in_default.not-Dot c.in_default.not-Index (expr_of c.args.part))
