use Rattle.std.proofs.Common.{◌≡◌, map}
use Rattle.std.specs.Rc.{rc_value}
use Rattle.std.specs.Vec.Iter.{into_iter_items}
use Rattle.script_tables.specs.Table.{put_all_by}
use Rattle.script_tables.specs.FnKey.{definition_key}
use Rattle.script_tables.proofs.fn_table.FnTable.with_all.Given as goal

-- what is left makes the table whole
abbrev pub invariant-loop-function : goal.invariant-loop-function
invariant-loop-function l =
    put_all_by definition_key l.table (map rc_value (into_iter_items l.function-iterator)) ≡ put_all_by definition_key l.fn.self (map rc_value l.fn.functions.items)
