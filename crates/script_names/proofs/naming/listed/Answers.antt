use Rattle.std.proofs.Common.{◌≡◌, codes, true, ap, ◌∙◌}
use Rattle.base_tokens.specs.Names.{is_valid_name}
use Rattle.theory_naming.specs.Alike.{unread}
use Rattle.script_names.proofs.Given.{ok_alike}
use Rattle.script_names.proofs.Valid.{mark_valid, unread_is_words}
use Rattle.script_names.proofs.naming.listed.Goals as goal

pub returns-in-None-clause-valid : goal.returns-in-None-clause-valid
returns-in-None-clause-valid c h =
    ok_alike c.with_mark.result _ (λ made. is_valid_name made ≡ true) (λ made e. ap is_valid_name e ∙ mark_valid unread c.args.name.now unread_is_words h) c.with_mark.ensures
