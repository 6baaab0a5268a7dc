use Rattle.base_engine.specs.EngineInfo.{engine_of}
use Rattle.ast_types.proofs.Cases.{expr_cases}
use Rattle.opt_base.proofs.Passing.{step_passes}
use Rattle.opt_rules.proofs.Kept.{nothing_left}
use Rattle.opt_rules.proofs.Passing.{step_here, step_under, step_at, step_anywhere, pass_anywhere}
use Rattle.opt_rules.proofs.nodes.step_expr.Goals as goal

pub returns-in-FnCall : goal.returns-in-FnCall
returns-in-FnCall c = step_at _ _ _ _ _ _ _ c.step_call.ensures

pub returns-in-Variable : goal.returns-in-Variable
returns-in-Variable c = step_under _ _ _ _ _ _ _ c.step_name.ensures

pub returns-in-Dot : goal.returns-in-Dot
returns-in-Dot c = step_here _ _ _ _ _ _ _ c.step_chain.ensures

pub returns-in-Index : goal.returns-in-Index
returns-in-Index c = step_here _ _ _ _ _ _ _ c.step_chain-in-Index.ensures

pub returns-in-And : goal.returns-in-And
returns-in-And c = c.step_operands.ensures _

pub returns-in-Or : goal.returns-in-Or
returns-in-Or c = c.step_operands-in-Or.ensures _

pub returns-in-Coalesce : goal.returns-in-Coalesce
returns-in-Coalesce c = c.step_operands-in-Coalesce.ensures _

pub returns-in-Stmt : goal.returns-in-Stmt
returns-in-Stmt c = step_passes _ _ _ _ _ _ _ (c.step_braces.ensures (engine_of c.args.info.now))

pub returns-in-Array : goal.returns-in-Array
returns-in-Array c = step_anywhere _ _ _ _ _ _ _ c.array_of_constants.ensures

pub returns-in-Map : goal.returns-in-Map
returns-in-Map c = step_anywhere _ _ _ _ _ _ _ c.step_map.ensures

pub returns-in-InterpolatedString : goal.returns-in-InterpolatedString
returns-in-InterpolatedString c = pass_anywhere _ _ _ _ _ _ _ c.step_text.ensures

pub returns-in_default : goal.returns-in_default
returns-in_default c = nothing_left (expr_cases c.args.expr.now) c.in_default.not-FnCall c.in_default.not-Variable c.in_default.not-Dot c.in_default.not-Index c.in_default.not-And c.in_default.not-Or c.in_default.not-Coalesce c.in_default.not-Stmt c.in_default.not-Array c.in_default.not-Map c.in_default.not-InterpolatedString
