use Rattle.std.proofs.Common.{◌≡◌, ◌++◌, map}
use Rattle.run_host.specs.Entries.{entry_meant as start_entry}
use Rattle.run_state.specs.Entries.{entry_meant}
use Rattle.run_state.proofs.state.entries.Given as goal

-- what is done, and then what is left
abbrev pub invariant-loop-name : goal.invariant-loop-name
invariant-loop-name l = map entry_meant l.entries.items ++ map start_entry l.name-iterator.entries.now ≡ map start_entry l.scope
