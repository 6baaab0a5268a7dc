use Rattle.std.proofs.Common.{refl}
use Rattle.ast_types.proofs.Cases.{expr_cases}
use Rattle.base_engine.specs.EngineInfo.{engine_of}
use Rattle.opt_base.specs.State.{progress}
use Rattle.opt_base.specs.Places.{place_of}
use Rattle.opt_chains.proofs.OtherChains.{quiet_otherwise}
use Rattle.opt_chains.proofs.chain.chain.chain_answer.Goals as goal

pub returns-in_default : goal.returns-in_default
returns-in_default c = (refl, quiet_otherwise (engine_of c.args.info.now) (progress c.args.state.now).known (place_of c.args.place) (expr_cases c.args.expr.now) c.in_default.not-Dot c.in_default.not-Index)
