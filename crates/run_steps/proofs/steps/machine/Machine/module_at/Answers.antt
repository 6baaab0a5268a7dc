use Rattle.run_steps.proofs.Modules.{path_stops}
use Rattle.run_steps.proofs.steps.machine.Machine.module_at.Goals as goal

pub returns-in_default : goal.returns-in_default
returns-in_default g c = λ s. path_stops _ s c.args.path.now c.in_default.ensures.1
