use Rattle.rhai_script.specs.Script.{script_of}
use Rattle.demo.proofs.Shows.{pushed_show}
use Rattle.demo.proofs.program.show.Goals as goal

pub returns : goal.returns
returns c = (
  script_of c.in_ok-after.after,
  c.in_ok-after.ensures,
  pushed_show _ _ _ _ _ _ _ _ c.in_ok-before.ensures c.new-text.ensures.bytes c.in_ok-push_str.ensures.bytes c.in_ok-push_script.ensures.ok c.in_ok-push_str-2.ensures.bytes c.in_ok-push_script-2.ensures.ok,
)
