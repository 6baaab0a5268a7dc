use Rattle.std.proofs.Common.{◌≡◌, Some, map, sym, ap, ◌∙◌, rules}
use Rattle.rhai_base.specs.Reading.{value_of, value_of-Array}
use Rattle.rhai_base.specs.Value.{values}
use Rattle.theory_meaning.specs.Elements.{element}
use Rattle.run_steps.specs.Setting.{setting}
use Rattle.run_steps.proofs.Following.{element_steps}
use Rattle.run_steps.proofs.chains.direct.element_of.Goals as goal

pub returns-in_ok-element-in-Array : goal.returns-in_ok-element-in-Array
returns-in_ok-element-in-Array g c =
    let there : element (values (map value_of c.as_slice.result.now)) c.in_ok-index-in-Array.index ≡ Some (value_of c.in_ok-element-in-Array.field-0.now) = search rules in
    record {
      key = _;
      step = element_steps (setting g.H.Host.answers g.H.Host.modules c.args.machine.now) c.args.state.now c.args.argument.now c.in_ok-index-in-Array.index (value_of c.args.value.now) (value_of c.in_ok-element-in-Array.field-0.now) (values (map value_of c.in-Array.items)) c.in_ok-index-in-Array.ensures
          (ap value_of c.in-Array.is ∙ value_of-Array _)
          (ap (λ vs. element (values (map value_of vs)) c.in_ok-index-in-Array.index) (sym c.as_slice.ensures) ∙ there);
    }
