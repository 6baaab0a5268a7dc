use Rattle.std.proofs.Common.{Some, rules}
use Rattle.base_engine.specs.EngineInfo.{engine_of}
use Rattle.ast_types.specs.Reading.{mark_of}
use Rattle.opt_base.proofs.Tokens.{first-unfolded}
use Rattle.opt_base.proofs.folding.folded_one.Goals as goal

pub returns-then-not-may_be_constant : goal.returns-then-not-may_be_constant
returns-then-not-may_be_constant c = first-unfolded (engine_of c.args.info.now) (mark_of (Some c.args.op)) _ (c.may_be_constant.ensures (search rules))
