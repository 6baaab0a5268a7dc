use Rattle.std.proofs.Common.{sym, ap, ◌∙◌}
use Rattle.rhai_base.specs.Reading.{value_of}
use Rattle.demo.specs.ProgramHost.{appended}
use Rattle.demo.proofs.ProgramHosts.{appended_item, appended_none}
use Rattle.demo.proofs.program_host.appended.Goals as goal

pub returns-in-Ok : goal.returns-in-Ok
returns-in-Ok c =
    appended_item _ _ _ _ _ (sym c.in_ok-clone.ensures.cases ∙ c.in-Ok.ensures) c.in_ok-push-in-Ok.ensures.ok c.in_ok-clone-in-Ok.ensures.cases

pub returns : goal.returns
returns c = c.unit_alone.ensures ∙ appended_none _ c.in-Err.ensures.1 (value_of c.args.item.now) ∙ ap (λ r. appended (value_of r) (value_of c.args.item.now)) c.in_ok-clone.ensures.cases
