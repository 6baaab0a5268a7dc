use Rattle.std.proofs.Common.{◌≡◌, ◌++◌, drop, map}
use Rattle.std.specs.String.{string_bytes}
use Rattle.theory_meaning.specs.Desugar.{qualified}
use Rattle.run_steps.proofs.nodes.variables.push_qualified.Given as goal

abbrev pub invariant-loop-module : goal.invariant-loop-module
invariant-loop-module l = string_bytes l.text ++ qualified (map (λ i. i.name) (drop l.module-index l.modules)) l.name ≡ string_bytes l.initial.text ++ qualified (map (λ i. i.name) l.modules) l.name
