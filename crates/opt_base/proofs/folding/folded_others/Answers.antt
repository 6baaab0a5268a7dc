use Rattle.std.proofs.Common.{Some, rules}
use Rattle.base_engine.specs.EngineInfo.{engine_of}
use Rattle.ast_types.specs.Reading.{mark_of, expr_of}
use Rattle.theory_meaning.specs.Constants.{constant_value}
use Rattle.opt_base.proofs.Tokens.{first-unfolded, second-unfolded}
use Rattle.opt_base.proofs.folding.folded_others.Goals as goal

pub returns-then-not-may_be_constant : goal.returns-then-not-may_be_constant
returns-then-not-may_be_constant c = first-unfolded (engine_of c.args.info.now) (mark_of (Some c.args.op)) _ (c.may_be_constant.ensures (search rules))

pub returns-then-not-may_be_constant-2 : goal.returns-then-not-may_be_constant-2
returns-then-not-may_be_constant-2 c = second-unfolded (engine_of c.args.info.now) (mark_of (Some c.args.op)) (constant_value (expr_of c.args.x.now)) _ (c.may_be_constant-2.ensures (search rules))
