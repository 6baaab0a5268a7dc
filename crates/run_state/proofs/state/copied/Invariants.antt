use Rattle.std.proofs.Common.{◌≡◌, ◌++◌, drop}
use Rattle.run_state.proofs.state.copied.Given as goal

abbrev pub invariant-loop-held : goal.invariant-loop-held
invariant-loop-held l = l.copies.items ++ drop l.held-index l.scope ≡ l.scope
