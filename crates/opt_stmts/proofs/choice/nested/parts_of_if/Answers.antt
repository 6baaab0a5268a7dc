use Rattle.std.proofs.Common.{sym}
use Rattle.ast_types.proofs.Cases.{stmt_cases}
use Rattle.opt_stmts.proofs.OtherChoices.{no_bare_if}
use Rattle.opt_stmts.proofs.choice.nested.parts_of_if.Goals as goal

pub returns : goal.returns
returns c = sym (no_bare_if (stmt_cases c.args.statement) c.in_default.not-If)
