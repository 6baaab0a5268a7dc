use Rattle.std.proofs.Common.{map, ap, sym, ◌∙◌}
use Rattle.ast_types.specs.Reading.{function_of}
use Rattle.script_tables.specs.Table.{are_distinct, key_of}
use Rattle.script_tables.proofs.fn_table.FnTable.iter.Goals as goal

pub returns-clause-distinct : goal.returns-clause-distinct
returns-clause-distinct c = ap (λ fs. are_distinct (map key_of (map function_of fs))) (sym c.self.view_is) ∙ c.self.invariant.distinct
