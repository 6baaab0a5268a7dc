use Rattle.ast_types.proofs.Cases.{expr_cases}
use Rattle.ast_nodes.proofs.OtherQueries.{no_literal}
use Rattle.ast_nodes.proofs.queries.constants.is_literally.Goals as goal

pub returns-in_default : goal.returns-in_default
returns-in_default c = no_literal c.args.truth (expr_cases c.args.condition.now) c.in_default.not-BoolConstant
