use Rattle.std.proofs.Common.{sym}
use Rattle.run_state.proofs.ValueAnswers.{truth-other}
use Rattle.run_state.proofs.values.truth_of.Goals as goal

pub returns-in_default : goal.returns-in_default
returns-in_default c = sym (truth-other _ c.in_default.not-Bool)
