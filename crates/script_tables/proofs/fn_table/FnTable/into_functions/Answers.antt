use Rattle.std.proofs.Common.{◌≡◌, List, map, ap, sym, ◌∙◌, arith}
use Rattle.std.proofs.lemmas.Grind.{common_steps}
use Rattle.std.specs.Rc.{rc_value}
use Rattle.ast_types.specs.Reading.{function_of}
use Rattle.ast_types.specs.declared.script_fn.ScriptFuncDef.{ScriptFuncDef}
use Rattle.script_tables.specs.FnKey.{definitions_table}
use Rattle.script_tables.specs.Table.{are_distinct, key_of}
use Rattle.script_tables.proofs.Choices.{whole_table}
use Rattle.script_tables.proofs.fn_table.FnTable.into_functions.Goals as goal

pub returns-clause-table : goal.returns-clause-table
returns-clause-table c =
    let all : map rc_value c.loop-function.all.items ≡ c.args.self = grind (arith, common_steps) in
    ap definitions_table all ∙ whole_table c.args.self (ap (λ (fs : List ScriptFuncDef). are_distinct (map key_of (map function_of fs))) (sym c.self.view_is) ∙ c.self.invariant.distinct)
