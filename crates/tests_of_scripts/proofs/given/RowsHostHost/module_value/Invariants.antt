use Rattle.std.proofs.Common.{◌≡◌, drop}
use Rattle.theory_meaning.specs.Host.{module_value_of}
use Rattle.tests_of_scripts.specs.HostRows.{modules_of}
use Rattle.tests_of_scripts.proofs.given.RowsHostHost.module_value.Given as goal

-- what is left decides
abbrev pub invariant-loop-module : goal.invariant-loop-module
invariant-loop-module l = module_value_of (modules_of (drop l.module-index l.self.modules)) l.qualified ≡ module_value_of (modules_of l.self.modules) l.qualified
