use Rattle.std.proofs.Common.{rules}
use Rattle.run_state.proofs.state.State.resume.Goals as goal

pub returns-clause-store : goal.returns-clause-store
returns-clause-store c = search rules
