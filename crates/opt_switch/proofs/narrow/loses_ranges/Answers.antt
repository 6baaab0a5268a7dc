use Rattle.std.proofs.Common.{◌≡◌, length, map, sym, ap, rules, ◌∙◌}
use Rattle.std.specs.Prelude.{nat_lt}
use Rattle.std.proofs.lemmas.List.{length-map}
use Rattle.rhai_base.specs.Reading.{value_of}
use Rattle.ast_types.specs.Reading.{arms_of, range_of}
use Rattle.theory_rewriting.specs.Narrowing.{only_ranges}
use Rattle.theory_rewriting.specs.Tables.{left_arms}
use Rattle.opt_switch.specs.Places.{held_place}
use Rattle.opt_switch.proofs.Trying.{held-places, only-len}
use Rattle.opt_switch.proofs.narrow.loses_ranges.Goals as goal

pub returns : goal.returns
returns c =
    let as' = arms_of c.args.arms.now in
    let v = value_of c.args.subject.now in
    let e : c.left_len.result ≡ length (only_ranges as' v (map range_of c.args.ranges.now)) = c.left_len.ensures (held_place v) (λ x r h. search rules) ∙ ap (λ is. length (left_arms as' is)) (held-places v c.args.ranges.now) ∙ only-len as' v (map range_of c.args.ranges.now) in
    ap (λ n. nat_lt n (length c.args.ranges.now)) e ∙ ap (nat_lt (length (only_ranges as' v (map range_of c.args.ranges.now)))) (sym (length-map c.args.ranges.now range_of))
