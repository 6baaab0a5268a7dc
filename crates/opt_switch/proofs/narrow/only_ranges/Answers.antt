use Rattle.std.proofs.Common.{List, rules, map, take, ap, ◌∙◌}
use Rattle.std.proofs.lemmas.Fn.{filter_same}
use Rattle.rhai_base.specs.declared.range_case.RangeCase.{RangeCase}
use Rattle.rhai_base.specs.Ranges.{index_of}
use Rattle.rhai_base.specs.Reading.{value_of}
use Rattle.theory_meaning.specs.Walk.{arms_of_ranges}
use Rattle.ast_types.specs.Reading.{arms_of, range_of}
use Rattle.theory_rewriting.specs.Narrowing.{only_ranges}
use Rattle.opt_switch.specs.Ends.{end_of}
use Rattle.opt_switch.proofs.Entries.{is_held, up_to, held_ranges}
use Rattle.opt_switch.proofs.Trying.{range-places}
use Rattle.opt_switch.proofs.narrow.only_ranges.Goals as goal

pub returns : goal.returns
returns c =
    let as' = arms_of c.args.arms.now in
    let v = value_of c.args.subject.now in
    let kept = filter_same _ (is_held as' v) _ (λ x b f' k. search rules) _ _ c.retain.ensures.filtered in
    ap (map range_of) (c.from_vec.ensures ∙ c.truncate.ensures.items
    ∙ ap (λ n. take n c.retain.new.self.items) (c.end_of.ensures index_of (λ x r h. search rules) ∙ ap (end_of as') (range-places c.as_slice.result.now) ∙ ap (λ (l : List RangeCase). end_of as' (arms_of_ranges (map range_of l))) c.as_slice.ensures.value)
    ∙ ap (up_to as') kept)
    ∙ held_ranges as' v c.into_vec-left.result.items
    ∙ ap (λ l. only_ranges as' v (map range_of l)) (c.into_vec-left.ensures ∙ c.replace.ensures.value)
