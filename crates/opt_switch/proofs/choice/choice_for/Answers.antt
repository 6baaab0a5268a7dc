use Rattle.std.proofs.Common.{◌≡◌, Some, map, ap, rules, ◌∙◌}
use Rattle.rhai_base.specs.Reading.{value_of}
use Rattle.theory_meaning.specs.Control.{ranges_with}
use Rattle.ast_types.specs.Reading.{arms_of, range_of}
use Rattle.theory_rewriting.specs.Tables.{left_arms}
use Rattle.opt_switch.specs.Choices.{choice_of}
use Rattle.opt_switch.specs.Places.{held_place}
use Rattle.opt_switch.proofs.Trying.{all-places, held-places}
use Rattle.opt_switch.proofs.choice.choice_for.Goals as goal

pub returns-in-Some : goal.returns-in-Some
returns-in-Some c =
    let as' = arms_of c.as_slice-arms.result.now in
    let is = c.as_slice.result.now in
    let e : c.choice_of.result ≡ choice_of as' (left_arms as' is) = c.choice_of.ensures (λ i. Some i) (λ x r h. search rules) ∙ ap (λ l. choice_of as' (left_arms as' l)) (all-places is) in
    search (rules, e)

pub returns-in-None : goal.returns-in-None
returns-in-None c =
    let as' = arms_of c.as_slice-arms.result.now in
    let v = value_of c.args.subject.now in
    let rs = c.as_slice-in-None.result.now in
    let e : c.choice_of-in-None.result ≡ choice_of as' (left_arms as' (ranges_with (map range_of rs) v)) = c.choice_of-in-None.ensures (held_place v) (λ x r h. search rules) ∙ ap (λ l. choice_of as' (left_arms as' l)) (held-places v rs) in
    search (rules, e)
