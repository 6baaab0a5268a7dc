use Rattle.ast_types.specs.Reading.{function_of}
use Rattle.ast_same.proofs.Exact.{same_but_names}
use Rattle.ast_same.proofs.scripts.same_but_name.Goals as goal

pub returns : goal.returns
returns c = same_but_names c.alike_but_name.result (function_of c.args.first.now) (function_of c.args.second.now) c.alike_but_name.ensures
