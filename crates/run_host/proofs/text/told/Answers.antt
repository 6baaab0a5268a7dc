use Rattle.std.proofs.Common.{ap, sym, ◌∙◌}
use Rattle.rhai_base.specs.Reading.{value_of}
use Rattle.run_host.specs.Host.{answer_meant, told}
use Rattle.run_host.proofs.Telling.{told_of_other}
use Rattle.run_host.proofs.text.told.Goals as goal

-- src/text.rt:50:1
pub returns-in-Value : goal.returns-in-Value
returns-in-Value c =
    let named = c.in_ok-new-in-Err.ensures ∙ c.type_name.ensures in
    let told_so = told_of_other c.in-Err.other c.in-Value.answer c.in-Err.ensures.0 c.in-Err.ensures.1 (value_of c.args.value.now) _ in
    named ∙ told_so ∙ ap (λ a. told (value_of c.args.value.now) (answer_meant a)) (sym c.in-Value.is)
