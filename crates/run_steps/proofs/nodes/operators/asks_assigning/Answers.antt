use Rattle.std.proofs.Common.{◌≡◌, true, sym, ◌∙◌, [], ◌∷◌}
use Rattle.rhai_base.specs.Reading.{value_of}
use Rattle.theory_meaning.specs.Engine.{assigning, is_overridden}
use Rattle.base_engine.specs.EngineInfo.{engine_of}
use Rattle.run_steps.proofs.Assigning.{asks_for_none, asks_where_none}
use Rattle.run_steps.proofs.Optional.{none_by}
use Rattle.run_steps.proofs.nodes.operators.asks_assigning.Goals as goal

pub returns : goal.returns
returns c = λ o h.
    let e = engine_of c.args.info.now in
    let over : is_overridden e (assigning o) (value_of c.args.old.now ∷ value_of c.args.new.now ∷ []) ≡ true =
    sym (rw (c.as_str.ensures, c.in_ok-name.ensures o h, c.type_name.ensures, c.type_name-2.ensures) at c.is_overridden.ensures) ∙ c.if-not-is_overridden.false in
    none_by c.in_ok-builtin_binary_op.field-0 c.is_none.result c.is_none.ensures ∙ asks_where_none e c.args.op o (value_of c.args.old.now) (value_of c.args.new.now) c.in_ok-builtin_binary_op.field-0 h over (sym c.fast_operators.ensures ∙ c.if-not-fast_operators.false) c.in_ok-builtin_binary_op.ensures

pub returns-then-not-has_overrides : goal.returns-then-not-has_overrides
returns-then-not-has_overrides c = λ o h. asks_for_none (engine_of c.args.info.now) o (value_of c.args.old.now ∷ value_of c.args.new.now ∷ []) c.has_overrides.result c.has_overrides.ensures c.if-not-has_overrides.true
