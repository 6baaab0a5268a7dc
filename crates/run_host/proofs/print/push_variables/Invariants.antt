use Rattle.std.proofs.Common.{◌≡◌, ◌++◌, map, drop, string_bytes}
use Rattle.run_host.specs.Entries.{variable_meant}
use Rattle.run_host.specs.Print.{variables_text}
use Rattle.run_host.proofs.print.push_variables.Given as goal

abbrev pub invariant-loop-variable : goal.invariant-loop-variable
invariant-loop-variable l =
    string_bytes l.text ++ variables_text (map variable_meant (drop l.variable-index l.variables)) ≡ string_bytes l.initial.text ++ variables_text (map variable_meant l.variables)
