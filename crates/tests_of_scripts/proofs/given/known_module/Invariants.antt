use Rattle.std.proofs.Common.{◌≡◌, drop}
use Rattle.theory_meaning.specs.Host.{module_in}
use Rattle.tests_of_scripts.specs.HostRows.{paths_of}
use Rattle.tests_of_scripts.proofs.given.known_module.Given as goal

-- what is left decides
abbrev pub invariant-loop-known : goal.invariant-loop-known
invariant-loop-known l = module_in (paths_of (drop l.known-index l.paths)) l.path ≡ module_in (paths_of l.paths) l.path
