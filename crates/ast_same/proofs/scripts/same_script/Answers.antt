use Rattle.rhai_script.specs.Script.{script_of}
use Rattle.ast_same.proofs.Exact.{same_scripts}
use Rattle.ast_same.proofs.scripts.same_script.Goals as goal

pub returns : goal.returns
returns c = same_scripts c.alike_script.result (script_of c.args.first.now) (script_of c.args.second.now) c.alike_script.ensures
