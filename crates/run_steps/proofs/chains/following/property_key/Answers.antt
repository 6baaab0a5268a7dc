use Rattle.std.proofs.Common.{◌≡◌, sym, ap, ◌∙◌, subst}
use Rattle.ast_types.specs.Reading.{expr_of, expr_of-Property, property_names}
use Rattle.theory_meaning.specs.Places.{AtEntry}
use Rattle.rhai_ast.specs.declared.walker.node.ChainType.TheVariants as chain_type
use Rattle.run_steps.specs.Direct.{KeySteps}
use Rattle.run_steps.proofs.FollowingSides.{property_key}
use Rattle.run_steps.proofs.chains.following.property_key.Goals as goal

pub returns-in_ok-clone-in-Property : goal.returns-in_ok-clone-in-Property
returns-in_ok-clone-in-Property c = λ here s.
    let name : (property_names c.in-Property.names).name ≡ c.in_ok-clone-in-Property.field-0 = sym (c.in_ok-clone-in-Property.ensures.cases ∙ ap (λ n. n.2) c.get.ensures) in
    subst (λ n. KeySteps here s chain_type.Dotting c.args.argument.now (AtEntry n)) name
    (property_key here s c.args.argument.now (property_names c.in-Property.names) (ap expr_of c.in-Property.is ∙ expr_of-Property _ _))
