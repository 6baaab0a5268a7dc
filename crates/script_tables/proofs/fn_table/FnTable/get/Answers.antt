use Rattle.std.proofs.Common.{ap, ◌∙◌}
use Rattle.std.specs.Option.{option_copied}
use Rattle.script_tables.specs.FnKey.{definition_key, key_meant}
use Rattle.script_tables.specs.Table.{find_by}
use Rattle.script_tables.proofs.Tables.{find-looked_up}
use Rattle.script_tables.proofs.fn_table.FnTable.get.Goals as goal

pub returns : goal.returns
returns c =
    find-looked_up c.self.inside.functions.entries c.args.key.now (option_copied c.get.result) c.get.ensures.value c.self.invariant
    ∙ ap (find_by definition_key (key_meant c.args.key.now)) c.self.view_is
