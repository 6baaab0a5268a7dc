use Rattle.rhai_base.specs.Reading.{value_of}
use Rattle.ast_types.proofs.Cases.{expr_cases}
use Rattle.ast_same.proofs.Others.{other_dynamic}
use Rattle.ast_same.proofs.leaves.is_dynamic.Goals as goal

pub returns-in_default : goal.returns-in_default
returns-in_default c = other_dynamic (expr_cases c.args.second.now) c.in_default.not-DynamicConstant (value_of c.args.value.now)
