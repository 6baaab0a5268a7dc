use Rattle.ast_alike.proofs.ByCases.{evaluated_default}
use Rattle.ast_alike.proofs.forms.evaluated.Goals as goal

pub returns-in_default : goal.returns-in_default
returns-in_default c = evaluated_default c.expression_statement.result c.args.expr c.in_default.not-Stmt c.expression_statement.ensures
