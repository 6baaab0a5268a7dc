use Rattle.std.proofs.Common.{sym, ap, ◌∙◌}
use Rattle.std.specs.Prelude.{is_some}
use Rattle.std.specs.Rc.{rc_value}
use Rattle.script_tables.specs.FnKey.{definition_key}
use Rattle.script_tables.specs.Table.{find_by}
use Rattle.ast_alike.proofs.Bared.{has_of, is_some_lent}
use Rattle.ast_alike.proofs.scripts.has_key.Goals as goal

pub returns : goal.returns
returns c = λ h. has_of c.args.table.now.functions _ (
    sym (c.is_some.ensures ∙ is_some_lent rc_value c.get.result ∙ ap is_some (c.get.ensures ∙ ap (λ k. find_by definition_key k c.args.table.now.functions) c.in_ok-key.ensures))
    ∙ h)
