use Rattle.std.proofs.Common.{subst, ap, ◌∙◌}
use Rattle.std.specs.List.Retain.{IsFiltered}
use Rattle.script_tables.specs.declared.fn_lib.FnLib.{FnLib}
use Rattle.script_tables.specs.Filter.{Answers}
use Rattle.rhai_script.specs.Contents.{contents, with_table, without_statements}
use Rattle.script_tables.proofs.Choices.{ok_alike}
use Rattle.rhai_script.proofs.ast.AST.clone_functions_only_filtered.Goals as goal

pub returns : goal.returns
returns g c =
    let lib = c.in_ok-lib.lib.value in
    let chosen = c.in_ok-lib.ensures.0 in
    ok_alike c.only.result _ _
    (λ s e. (
      chosen,
      subst (λ (table : FnLib). IsFiltered (Answers g.F.Fn) c.args.filter table.functions chosen) c.deref.ensures c.in_ok-lib.ensures.1,
      e ∙ ap (λ fs. without_statements (with_table fs (contents c.args.self.now))) c.in_ok-lib.ensures.3,
    )) c.only.ensures
