use Rattle.std.proofs.Common.{rules, map, ap, ◌∙◌}
use Rattle.ast_types.specs.Reading.{arms_of, case_of}
use Rattle.theory_rewriting.specs.Shrinking.{left_cases}
use Rattle.opt_switch.proofs.Entries.{left_kept}
use Rattle.opt_switch.proofs.shrink.shrink_cases.Goals as goal

pub returns : goal.returns
returns c =
    let as' = arms_of c.args.arms.now in
    ap (map case_of) c.replace_map.ensures.left
    ∙ left_kept _ _ as' c.args.keeps_empty (λ k u b w g call. search rules) _ _ c.retain.ensures.filtered
    ∙ ap (λ es. left_cases as' c.args.keeps_empty (map case_of es)) c.replace_map-map.ensures.taken
