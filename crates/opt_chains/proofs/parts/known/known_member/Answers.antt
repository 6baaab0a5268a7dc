use Rattle.ast_types.proofs.Cases.{expr_cases}
use Rattle.ast_types.specs.Reading.{expr_of}
use Rattle.opt_base.specs.State.{progress}
use Rattle.opt_chains.proofs.OtherParts.{no_known_property}
use Rattle.opt_chains.proofs.parts.known.known_member.Goals as goal

pub returns-in_default : goal.returns-in_default
returns-in_default c = no_known_property (progress c.args.state.now).known (expr_of c.args.base.now) (expr_cases c.args.right.now) c.in_default.not-Property
