use Rattle.ast_types.proofs.Cases.{stmt_cases}
use Rattle.opt_base.proofs.Others.{no_export}
use Rattle.opt_base.proofs.exports.is_no_exporting_statement.Goals as goal

pub returns-in_default : goal.returns-in_default
returns-in_default c = no_export (stmt_cases c.args.statement.now) c.in_default.not-Var c.in_default.not-Export
