use Rattle.std.proofs.Common.{rules, map, ap, ◌∙◌}
use Rattle.rhai_base.specs.Reading.{value_of}
use Rattle.ast_types.specs.Reading.{arms_of, case_of}
use Rattle.theory_rewriting.specs.Narrowing.{only_cases}
use Rattle.opt_switch.proofs.Entries.{only_kept}
use Rattle.opt_switch.proofs.narrow.only_cases.Goals as goal

pub returns : goal.returns
returns c =
    let as' = arms_of c.args.arms.now in
    let v = value_of c.args.subject.now in
    ap (map case_of) c.replace_map.ensures.left
    ∙ only_kept _ _ as' v (λ k u b w g call. search rules) _ _ c.retain.ensures.filtered
    ∙ ap (λ es. only_cases as' v (map case_of es)) c.replace_map-map.ensures.taken
