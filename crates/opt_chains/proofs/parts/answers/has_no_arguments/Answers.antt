use Rattle.opt_chains.proofs.OtherParts.{no_arguments}
use Rattle.opt_chains.proofs.parts.answers.has_no_arguments.Goals as goal

pub returns : goal.returns
returns c = no_arguments c.args.call.now.args c.is_empty.result c.is_empty.ensures
