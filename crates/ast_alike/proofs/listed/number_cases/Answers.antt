use Rattle.std.proofs.Common.{rules, map, ap, ◌∙◌}
use Rattle.ast_types.specs.Reading.{case_of}
use Rattle.theory_spelling.specs.Listed.{numbered_case}
use Rattle.ast_alike.specs.Gaps.{number_by}
use Rattle.ast_alike.proofs.Kept.{all_numbered}
use Rattle.ast_alike.proofs.listed.number_cases.Goals as goal

pub returns : goal.returns
returns c =
    let number = number_by c.args.gaps.now in
    ap (map case_of) c.replace_map.ensures.left
    ∙ all_numbered _ _ number (λ k u b w g call. search rules) _ _ c.retain.ensures.filtered
    ∙ ap (λ es. map (numbered_case number) (map case_of es)) c.replace_map-entries.ensures.taken
