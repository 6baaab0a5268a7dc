use Rattle.std.proofs.Common.{rules}
use Rattle.script_queries.proofs.script.ASTScriptQueries.iter_fn_def.Goals as goal

pub returns : goal.returns
returns c = search rules
