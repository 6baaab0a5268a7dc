use Rattle.std.proofs.Common.{◌≡◌, ◌++◌, drop, string_bytes}
use Rattle.demo.specs.BuiltinScripts.{all_scripts}
use Rattle.demo.specs.Words.{listing}
use Rattle.demo.proofs.program.list.Given as goal

abbrev pub invariant-loop-script : goal.invariant-loop-script
invariant-loop-script l = (l.script-items ≡ all_scripts) × (string_bytes l.text ++ listing (drop l.script-index all_scripts) ≡ listing all_scripts)
