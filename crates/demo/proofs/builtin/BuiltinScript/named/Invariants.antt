use Rattle.std.proofs.Common.{◌≡◌, drop}
use Rattle.demo.specs.BuiltinScripts.{all_scripts, script_among, script_named}
use Rattle.demo.proofs.builtin.BuiltinScript.named.Given as goal

abbrev pub invariant-loop-script : goal.invariant-loop-script
invariant-loop-script l = (l.script-items ≡ all_scripts) × (script_among (drop l.script-index all_scripts) l.name ≡ script_named l.name)
