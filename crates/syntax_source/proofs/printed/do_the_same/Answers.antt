use Rattle.theory_spelling.proofs.Scripts.{spelled_do_the_same}
use Rattle.rhai_script.specs.Script.{script_of}
use Rattle.syntax_source.proofs.Doing.{same_but_names}
use Rattle.syntax_source.proofs.printed.do_the_same.Goals as goal

pub returns-then-is_alike : goal.returns-then-is_alike
returns-then-is_alike c = λ h. spelled_do_the_same (script_of c.args.first.now) (script_of c.args.second.now) (c.in_ok-is_alike.ensures c.if-is_alike.true)

pub returns : goal.returns
returns c = same_but_names c.spelled_alike_but_names.result (script_of c.args.first.now) (script_of c.args.second.now) c.spelled_alike_but_names.ensures
