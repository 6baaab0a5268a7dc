use Rattle.run_steps.proofs.NamedModules.{module_unnamed}
use Rattle.run_steps.proofs.nodes.variables.module_name.Goals as goal

pub returns-in_default : goal.returns-in_default
returns-in_default c = module_unnamed c.args.value.now c.in_default.ensures.1
