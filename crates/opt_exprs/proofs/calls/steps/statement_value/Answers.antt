use Rattle.base_engine.specs.EngineInfo.{engine_of}
use Rattle.ast_types.proofs.Cases.{stmt_cases}
use Rattle.opt_exprs.proofs.Pointers.{no_statement_value}
use Rattle.opt_exprs.proofs.calls.steps.statement_value.Goals as goal

pub returns-in_default : goal.returns-in_default
returns-in_default c = no_statement_value (engine_of c.args.info.now) (stmt_cases c.args.statement.now) c.in_default.not-FnCall
