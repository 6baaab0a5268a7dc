use Rattle.std.proofs.Common.{◌≡◌, Some, SFits, w64, map, ap, sym, ◌∙◌, subst}
use Rattle.std.specs.Prelude.{IfSome}
use Rattle.std.proofs.lemmas.Int.{to_z-of_z}
use Rattle.rhai_base.specs.Reading.{value_of}
use Rattle.rhai_base.specs.Value.{values}
use Rattle.theory_meaning.specs.Elements.{element, index_in}
use Rattle.run_places.proofs.Parts.{element_at}
use Rattle.opt_chains.specs.Answers.{allowed}
use Rattle.opt_chains.proofs.parts.moved.move_element.Goals as goal

pub returns-in-Some-get_mut-clause-moved : goal.returns-in-Some-get_mut-clause-moved
returns-in-Some-get_mut-clause-moved c =
    let fits : SFits w64 c.args.index = c.ranges.index in
    let placed = simp to_z-of_z at c.place_in.ensures.place in
    let is : element (values (map value_of c.args.items.now)) c.args.index ≡ Some (value_of c.in-Some-get_mut.item.now) = element_at c.args.items.now c.args.index c.in-Some.place c.in-Some-get_mut.item.now (ap (λ n. index_in n c.args.index) (sym c.len.ensures) ∙ sym placed ∙ c.in-Some.is) c.in-Some-get_mut.ensures.value.0 c.in-Some-get_mut.ensures.value.1 in
    subst (λ o. IfSome c.move_out.result (λ v. allowed c.args.unit o ≡ Some (value_of v))) (sym is) c.move_out.ensures.moved
