use Rattle.std.proofs.Common.{ap, ◌∙◌}
use Rattle.script_tables.specs.FnKey.{fn_key_of, definition_key}
use Rattle.script_tables.specs.Table.{put_by}
use Rattle.script_tables.proofs.Tables.{functions-after, IsTable-after}
use Rattle.script_tables.proofs.fn_table.FnTable.put.Goals as goal

pub invariant_of-self-2 : goal.invariant_of-self-2
invariant_of-self-2 c =
    IsTable-after c.self.inside.functions.entries c.insert.new.self.entries c.in_ok-key.key c.args.function
    (c.in_ok-key.ensures ∙ ap fn_key_of c.deref.ensures) c.in_ok-insert.ensures.entries c.self.invariant

pub returns-clause-ok : goal.returns-clause-ok
returns-clause-ok c =
    functions-after c.self.inside.functions.entries c.insert.new.self.entries c.in_ok-key.key c.args.function
    (c.in_ok-key.ensures ∙ ap fn_key_of c.deref.ensures) c.in_ok-insert.ensures.entries c.self.invariant
    ∙ ap (λ fs. put_by definition_key fs c.args.function.value) c.self.view_is
