use Rattle.ast_types.specs.Reading.{function_of}
use Rattle.ast_same.proofs.Exact.{same_functions}
use Rattle.ast_same.proofs.scripts.same_function.Goals as goal

pub returns : goal.returns
returns c = same_functions c.alike_function.result (function_of c.args.first.now) (function_of c.args.second.now) c.alike_function.ensures
