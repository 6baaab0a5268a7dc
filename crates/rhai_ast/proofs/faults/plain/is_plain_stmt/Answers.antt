use Rattle.ast_types.proofs.Cases.{stmt_cases}
use Rattle.rhai_ast.proofs.OtherFaults.{plain_alone}
use Rattle.rhai_ast.proofs.faults.plain.is_plain_stmt.Goals as goal

pub returns-in_default : goal.returns-in_default
returns-in_default c =
    let no = c.in_default in
    plain_alone (stmt_cases c.args.stmt.now) no.not-FnCall no.not-Share
