use Rattle.std.proofs.Common.{rules}
use Rattle.script_queries.proofs.script.ASTScriptQueries.iter_literal_variables.Goals as goal

pub returns : goal.returns
returns c = search rules
