use Rattle.ast_types.specs.Reading.{property_names}
use Rattle.ast_types.proofs.Cases.{expr_cases}
use Rattle.ast_same.proofs.Others.{other_property}
use Rattle.ast_same.proofs.leaves.is_property.Goals as goal

pub returns-in_default : goal.returns-in_default
returns-in_default c = other_property (expr_cases c.args.second.now) c.in_default.not-Property (property_names c.args.names.now)
