use Rattle.std.proofs.Common.{◌++◌, ap, ◌∙◌}
use Rattle.run_host.specs.Print.{report_text}
use Rattle.rhai_script.specs.Script.{script_of}
use Rattle.demo.specs.Words.{reported}
use Rattle.demo.proofs.program.run.Goals as goal

pub returns : goal.returns
returns c = (
  script_of c.in_ok-after.after,
  c.in_ok-after.ensures,
  c.in_ok-push_run.ensures ∙ ap (λ t. t ++ report_text (reported (script_of c.in_ok-after.after) c.args.turns)) c.new-text.ensures.bytes,
)
