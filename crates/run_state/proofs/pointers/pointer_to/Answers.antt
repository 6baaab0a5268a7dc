use Rattle.run_state.proofs.PointerRuns.{unnamed_stuck}
use Rattle.run_state.proofs.pointers.pointer_to.Goals as goal

pub returns-in_default : goal.returns-in_default
returns-in_default c = λ here s. unnamed_stuck here s c.args.name.now c.in_default.ensures.1
