use Rattle.theory_rewriting.proofs.Running.{list_pass, list_swept}
use Rattle.opt_reducer.proofs.lists.sweep_before.Goals as goal

pub returns-in-Whole : goal.returns-in-Whole
returns-in-Whole c r = list_swept c.sweep_list.ensures

pub returns-in-Inside : goal.returns-in-Inside
returns-in-Inside c r = list_pass
