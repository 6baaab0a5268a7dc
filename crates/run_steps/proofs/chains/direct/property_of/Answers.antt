use Rattle.std.proofs.Common.{ap, ◌∙◌}
use Rattle.rhai_base.specs.Reading.{members_of, value_of, value_of-Map}
use Rattle.rhai_base.specs.Value.{fields}
use Rattle.ast_types.specs.Reading.{expr_of, expr_of-Property, property_names}
use Rattle.theory_meaning.specs.Elements as elements
use Rattle.run_places.specs.Reading.{part_value}
use Rattle.run_steps.proofs.Following.{property_steps}
use Rattle.run_steps.proofs.chains.direct.property_of.Goals as goal

pub returns-in-Map : goal.returns-in-Map
returns-in-Map c = λ here s.
    record {
      key = _;
      step = property_steps here s c.args.argument.now (property_names c.in-Property.names) (value_of c.args.value.now) (part_value c.entry.result) (fields (members_of c.in-Map.members))
          (ap expr_of c.in-Property.is ∙ expr_of-Property _ _)
          (ap value_of c.in-Map.is ∙ value_of-Map _)
          (c.entry.ensures ∙ ap (λ n. elements.entry (fields (members_of c.in-Map.members)) n.2) c.get.ensures);
    }
