use Rattle.ast_types.proofs.Cases.{stmt_cases}
use Rattle.ast_same.proofs.Others.{other_export}
use Rattle.ast_same.proofs.leaves.is_export.Goals as goal

pub returns-in_default : goal.returns-in_default
returns-in_default c = other_export (stmt_cases c.args.second.now) c.in_default.not-Export c.args.names.now.0.name c.args.names.now.1.name
