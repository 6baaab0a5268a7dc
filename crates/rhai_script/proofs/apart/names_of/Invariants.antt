use Rattle.rhai_script.proofs.Taken.{NamesSoFar}
use Rattle.rhai_script.proofs.apart.names_of.Given as goal

abbrev pub invariant-loop-function : goal.invariant-loop-function
invariant-loop-function l = NamesSoFar l.lib.functions l.function-iterator l.names
