use Rattle.std.proofs.Common.{◌≡◌, Some, length, ap, rules, ◌∙◌}
use Rattle.ast_types.specs.Reading.{arms_of}
use Rattle.theory_rewriting.specs.Tables.{left_arms}
use Rattle.opt_switch.proofs.Trying.{all-places}
use Rattle.opt_switch.proofs.shrink.loses_arms.Goals as goal

pub returns : goal.returns
returns c =
    let as' = arms_of c.args.arms.now in
    let e : c.left_len.result ≡ length (left_arms as' c.args.places.now) = c.left_len.ensures (λ i. Some i) (λ x r h. search rules) ∙ ap (λ is. length (left_arms as' is)) (all-places c.args.places.now) in
    search (rules, e)
