use Rattle.base_engine.specs.EngineInfo.{engine_of}
use Rattle.ast_types.proofs.Cases.{expr_cases}
use Rattle.opt_exprs.proofs.Pointers.{no_call_value}
use Rattle.opt_exprs.proofs.calls.steps.expr_value.Goals as goal

pub returns-in_default : goal.returns-in_default
returns-in_default c = no_call_value (engine_of c.args.info.now) (expr_cases c.args.expr.now) c.in_default.not-FnCall
