use Rattle.std.proofs.Common.{rules, map, ap, ◌∙◌}
use Rattle.std.proofs.lemmas.Fn.{filter_same}
use Rattle.ast_types.specs.Reading.{arms_of, range_of}
use Rattle.theory_rewriting.specs.Shrinking.{left_ranges}
use Rattle.opt_switch.proofs.Entries.{is_open_range, open_ranges}
use Rattle.opt_switch.proofs.shrink.shrink_ranges.Goals as goal

pub returns : goal.returns
returns c =
    let as' = arms_of c.args.arms.now in
    let kept = filter_same _ (is_open_range as') _ (λ x b f' k. search rules) _ _ c.retain.ensures.filtered in
    ap (map range_of) (c.from_vec.ensures ∙ kept) ∙ open_ranges as' _ ∙ ap (λ l. left_ranges as' (map range_of l)) (c.into_vec-left.ensures ∙ c.replace.ensures.value)
