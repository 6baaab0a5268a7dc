use Rattle.base_engine.specs.EngineInfo.{engine_of}
use Rattle.opt_base.specs.State.{progress}
use Rattle.ast_types.specs.Reading.{chain_flags}
use Rattle.opt_base.specs.Places.{place_of}
use Rattle.rhai_ast.specs.Nodes.{is_dot}
use Rattle.opt_chains.proofs.Chains.{moved_step}
use Rattle.opt_chains.proofs.chain.chain.first_answer.Goals as goal

pub returns-in-Some : goal.returns-in-Some
returns-in-Some c =
    moved_step (engine_of c.args.info.now) (progress c.args.state.now).known (place_of c.args.place) (is_dot c.args.access) (chain_flags c.args.flags) c.args.sides.now c.part_moved.new.sides c.unit_may_stand-unit.result c.in-Some.part c.unit_may_stand-unit.ensures (rw c.in-Some.is at c.in_ok-part.ensures)

pub returns-in-None : goal.returns-in-None
returns-in-None c =
    let same = rw c.in-None.is at c.in_ok-part.ensures in
    rw same at c.other_answer.ensures
