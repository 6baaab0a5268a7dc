use Rattle.std.proofs.Common.{◌≡◌, Some, sym, ap, ◌∙◌, rules}
use Rattle.std.specs.Option.{option_copied, option_map}
use Rattle.rhai_base.specs.Reading.{value_of}
use Rattle.opt_rules.proofs.Naming.{name_put, name_stays}
use Rattle.opt_rules.proofs.names.step_name.Goals as goal

pub returns-in-Some : goal.returns-in-Some
returns-in-Some c =
    let same : value_of c.in_ok-value.value ≡ value_of c.in-Some.value.now = search rules in
    name_put _ c.requires (ap Some same ∙ sym (ap (λ o. option_map value_of (option_copied o)) c.in-Some.is) ∙ c.known_there.ensures) c.in_ok-put_constant.ensures

pub returns : goal.returns
returns c = name_stays _ c.requires (sym (ap (λ o. option_map value_of (option_copied o)) c.in_default.is) ∙ c.known_there.ensures)
