use Rattle.std.proofs.Common.{map, ap, ◌∙◌, []}
use Rattle.std.specs.Rc.{rc_value}
use Rattle.ast_types.specs.Reading.{function_of}
use Rattle.script_tables.specs.FnKey.{definition_key}
use Rattle.script_tables.specs.Table.{key_of, put_all_by}
use Rattle.script_tables.proofs.Tables.{map-put_all}
use Rattle.script_tables.proofs.fn_lib.FnLib.from_functions.Goals as goal

pub returns-clause-table : goal.returns-clause-table
returns-clause-table c =
    let functions = map rc_value c.args.functions.items in
    ap (map function_of) (c.unnamed.ensures.functions ∙ c.in_ok-functions.ensures ∙ ap (λ t. put_all_by definition_key t functions) c.new.ensures) ∙ map-put_all function_of key_of [] functions
