use Rattle.std.proofs.Common.{rules}
use Rattle.run_state.proofs.state.State.goes_on.Goals as goal

pub returns-then-not-holds : goal.returns-then-not-holds
returns-then-not-holds c = search rules

pub returns : goal.returns
returns c = search rules
