use Rattle.std.proofs.Common.{◌≡◌, ◌++◌, map, length}
use Rattle.theory_meaning.specs.Run.{exports, names}
use Rattle.run_host.specs.Entries.{export_meant, variable_meant}
use Rattle.run_state.specs.Entries.{entry_meant}
use Rattle.rhai_run.proofs.run.parted.Given as goal

-- what is done, and then what is left
abbrev pub invariant-loop-held : goal.invariant-loop-held
invariant-loop-held l =
    (map variable_meant l.variables ++ names (map entry_meant l.rest) ≡ names (map entry_meant l.fn.scope.items))
    × (map export_meant l.exports ++ exports (map entry_meant l.rest) ≡ exports (map entry_meant l.fn.scope.items))

abbrev pub decreases-loop-held : goal.decreases-loop-held
decreases-loop-held l = length l.rest
