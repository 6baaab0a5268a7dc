use Rattle.std.proofs.Common.{◌≡◌, ◌++◌, map}
use Rattle.std.specs.Rc.{rc_value}
use Rattle.script_tables.proofs.fn_table.FnTable.into_functions.Given as goal

abbrev pub invariant-loop-function : goal.invariant-loop-function
invariant-loop-function l = map rc_value l.all.items ++ map rc_value l.function-iterator ≡ l.fn.self
