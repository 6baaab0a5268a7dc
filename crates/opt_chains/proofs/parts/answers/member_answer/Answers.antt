use Rattle.ast_types.proofs.Cases.{expr_cases}
use Rattle.base_engine.specs.EngineInfo.{engine_of}
use Rattle.ast_types.specs.Reading.{is_negated}
use Rattle.rhai_base.specs.Reading.{value_of}
use Rattle.opt_chains.proofs.OtherParts.{no_member}
use Rattle.opt_chains.proofs.parts.answers.member_answer.Goals as goal

pub returns-in_default : goal.returns-in_default
returns-in_default c = no_member (engine_of c.args.info.now) (is_negated c.args.flags) (value_of c.args.value.now) (expr_cases c.args.member.now) c.in_default.not-Property c.in_default.not-MethodCall
