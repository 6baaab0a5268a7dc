use Rattle.std.proofs.Common.{sym}
use Rattle.base_engine.specs.EngineInfo.{engine_of}
use Rattle.opt_base.specs.Places.{place_of}
use Rattle.opt_chains.proofs.chain.chain.step_chain.Goals as goal

pub returns-then-ends_in_unit : goal.returns-then-ends_in_unit
returns-then-ends_in_unit c = c.unit_ends.ensures (place_of c.args.place) (engine_of c.args.info.now) (sym c.if-ends_in_unit.ensures)
