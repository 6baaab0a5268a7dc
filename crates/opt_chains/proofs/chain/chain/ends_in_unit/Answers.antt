use Rattle.ast_types.proofs.Cases.{expr_cases}
use Rattle.opt_base.specs.Places.{place_of}
use Rattle.opt_chains.proofs.OtherChains.{ends_nowhere}
use Rattle.opt_chains.proofs.chain.chain.ends_in_unit.Goals as goal

pub returns-in_default : goal.returns-in_default
returns-in_default c = ends_nowhere (place_of c.args.place) (expr_cases c.args.expr.now) c.in_default.not-Dot c.in_default.not-Index
