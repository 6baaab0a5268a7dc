use Rattle.ast_types.proofs.Cases.{stmt_cases}
use Rattle.ast_types.specs.Reading.{stmt_of}
use Rattle.ast_alike.proofs.Captured.{other_closure}
use Rattle.ast_alike.proofs.captures.closure_by.Goals as goal

pub returns : goal.returns
returns c = other_closure (stmt_cases c.args.first) c.in_default.not-Share (stmt_of c.args.second)
