use Rattle.std.proofs.Common.{◌∙◌}
use Rattle.script_tables.proofs.Tables.{functions-copied, IsTable-copied}
use Rattle.script_tables.proofs.fn_table.FnTableClone.clone.Goals as goal

pub invariant_of-result : goal.invariant_of-result
invariant_of-result c = IsTable-copied c.self.inside.functions.entries c.in_ok-clone.field-0.entries c.in_ok-clone.ensures.cases c.self.invariant

pub returns : goal.returns
returns c = record { cases = functions-copied c.self.inside.functions.entries c.in_ok-clone.field-0.entries c.in_ok-clone.ensures.cases ∙ c.self.view_is }
