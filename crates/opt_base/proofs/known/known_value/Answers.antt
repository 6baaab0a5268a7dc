use Rattle.ast_types.proofs.Cases.{expr_cases}
use Rattle.opt_base.specs.State.{progress}
use Rattle.opt_base.proofs.Unknown.{no_known_value}
use Rattle.opt_base.proofs.known.known_value.Goals as goal

pub returns-in_default : goal.returns-in_default
returns-in_default c = no_known_value (progress c.args.state.now).known (expr_cases c.args.expr.now) c.in_default.not-Variable
