use Rattle.std.proofs.Common.{◌≡◌, true, ap, ◌∙◌}
use Rattle.base_tokens.specs.Names.{is_valid_name}
use Rattle.theory_naming.specs.Renaming.{with_mark}
use Rattle.script_names.specs.Names.{underscores}
use Rattle.script_names.proofs.Given.{ok_alike}
use Rattle.script_names.proofs.Valid.{mark_valid, underscores_are_words}
use Rattle.script_names.proofs.naming.Names.name_for.Goals as goal

pub returns-in_ok-underscores-in-Marked-clause-valid : goal.returns-in_ok-underscores-in-Marked-clause-valid
returns-in_ok-underscores-in-Marked-clause-valid c h =
    let is = c.as_str.ensures.value ∙ c.in_ok-underscores-in-Marked.ensures in
    ok_alike c.with_mark.result _ (λ made. is_valid_name made ≡ true)
    (λ made e. ap is_valid_name (e ∙ ap (λ m. with_mark m c.args.name.now) is) ∙ mark_valid (underscores c.in-Marked.marks) c.args.name.now (underscores_are_words c.in-Marked.marks) h) c.with_mark.ensures
