use Rattle.std.proofs.Common.{rules, filter, take, ap, ◌∙◌}
use Rattle.std.proofs.lemmas.Fn.{filter_same}
use Rattle.std.proofs.lemmas.List.{map-id}
use Rattle.ast_types.specs.Reading.{arms_of}
use Rattle.theory_rewriting.specs.Tables.{left_arms}
use Rattle.opt_switch.specs.Ends.{end_of}
use Rattle.opt_switch.proofs.Entries.{is_open_arm, left_of}
use Rattle.opt_switch.proofs.shrink.keep_left.Goals as goal

pub returns : goal.returns
returns c =
    let as' = arms_of c.args.arms.now in
    let kept = filter_same _ (is_open_arm as') _ (λ x b f' k. search rules) _ _ c.retain.ensures.filtered in
    c.from_vec.ensures ∙ kept
    ∙ ap (filter (is_open_arm as')) (c.truncate.ensures.items ∙ ap (λ n. take n c.into_vec-places.result.items) (c.end_of.ensures (λ i. i) (λ x r h. search rules) ∙ ap (end_of as') (map-id c.as_slice.result.now ∙ c.as_slice.ensures.value)))
    ∙ left_of as' c.into_vec-places.result.items
    ∙ ap (left_arms as') (c.into_vec-places.ensures ∙ c.replace.ensures.value)
