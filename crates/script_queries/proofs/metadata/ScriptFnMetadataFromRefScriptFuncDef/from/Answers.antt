use Rattle.std.proofs.Common.{rules}
use Rattle.script_queries.proofs.metadata.ScriptFnMetadataFromRefScriptFuncDef.from.Goals as goal

pub returns : goal.returns
returns c = search rules
