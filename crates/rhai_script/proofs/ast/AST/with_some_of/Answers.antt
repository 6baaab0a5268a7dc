use Rattle.std.proofs.Common.{◌≡◌, subst, ◌∙◌, arith}
use Rattle.std.proofs.lemmas.Grind.{common_steps}
use Rattle.std.specs.List.Retain.{IsFiltered}
use Rattle.script_tables.specs.declared.fn_lib.FnLib.{FnLib}
use Rattle.script_tables.specs.Filter.{Answers}
use Rattle.rhai_script.specs.Contents.{contents, joined_over, merged}
use Rattle.script_tables.proofs.Choices.{ok_alike}
use Rattle.rhai_script.proofs.ast.AST.with_some_of.Goals as goal

pub returns : goal.returns
returns g c =
    let chosen = c.in_ok-lib.ensures.0 in
    let whole : joined_over c.in_ok-lib.lib.value c.args.other.now.source (contents c.args.self.now) (contents c.args.other.now) ≡ merged (contents c.args.self.now) (contents c.args.other.now) chosen = grind (arith, common_steps) in
    ok_alike c.merged_with.result _ _
    (λ s e. (
      chosen,
      subst (λ (table : FnLib). IsFiltered (Answers g.F.Fn) c.args.filter.now table.functions chosen) c.deref-2.ensures c.in_ok-lib.ensures.1,
      e ∙ whole,
    )) c.merged_with.ensures
