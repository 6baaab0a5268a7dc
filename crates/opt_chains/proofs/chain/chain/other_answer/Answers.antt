use Rattle.std.proofs.Common.{sym, ap, ◌∙◌}
use Rattle.std.specs.Option.{option_map}
use Rattle.std.proofs.lemmas.Result.{IfOk-weaker}
use Rattle.base_engine.specs.EngineInfo.{engine_of}
use Rattle.opt_base.specs.State.{progress}
use Rattle.ast_types.specs.Reading.{chain_flags}
use Rattle.opt_base.specs.Places.{place_of}
use Rattle.rhai_base.specs.Reading.{value_of}
use Rattle.rhai_ast.specs.Nodes.{is_dot}
use Rattle.opt_chains.proofs.Chains.{value_step, taken_step}
use Rattle.opt_chains.proofs.chain.chain.other_answer.Goals as goal

pub returns-in_ok-constant_of-in-Some : goal.returns-in_ok-constant_of-in-Some
returns-in_ok-constant_of-in-Some c =
    value_step (engine_of c.args.info.now) (progress c.args.state.now).known (place_of c.args.place) (is_dot c.args.access) (chain_flags c.args.flags) c.args.sides.now c.unit_may_stand-unit.result _ (value_of c.in-Some.value) c.unit_may_stand-unit.ensures (sym (ap (option_map value_of) c.in-Some.is) ∙ c.in_ok-value.ensures) c.in_ok-constant_of-in-Some.ensures

pub returns-in-None : goal.returns-in-None
returns-in-None c =
    IfOk-weaker _ _ _
    (λ part h. taken_step (engine_of c.args.info.now) (progress c.args.state.now).known (place_of c.args.place) (is_dot c.args.access) (chain_flags c.args.flags) c.args.sides.now _ c.unit_may_stand-unit.result part c.unit_may_stand-unit.ensures (sym (ap (option_map value_of) c.in-None.is) ∙ c.in_ok-value.ensures) h)
    c.literal_taken.ensures
