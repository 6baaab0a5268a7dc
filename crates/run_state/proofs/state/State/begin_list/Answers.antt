use Rattle.std.proofs.Common.{arith, refl}
use Rattle.run_state.specs.Entries.{entry_meant}
use Rattle.run_state.proofs.Scopes.{length_scope}
use Rattle.run_state.proofs.state.State.begin_list.Goals as goal

pub returns-clause-mark : goal.returns-clause-mark
returns-clause-mark c = (omega (arith, c.len.ensures, c.args.self.now.scope.ok.0, length_scope entry_meant c.args.self.now.scope.items), refl)
