use Rattle.std.proofs.Common.{rules}
use Rattle.run_state.proofs.Variables.{turned_more}
use Rattle.run_state.proofs.state.State.declare.Goals as goal

pub returns-clause-store : goal.returns-clause-store
returns-clause-store c = search (rules, turned_more)
