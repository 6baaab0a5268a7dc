use Rattle.std.proofs.Common.{◌≡◌, subst, ◌∙◌, arith}
use Rattle.std.proofs.lemmas.Grind.{common_steps}
use Rattle.std.specs.List.Retain.{IsFiltered}
use Rattle.script_tables.specs.declared.fn_lib.FnLib.{FnLib}
use Rattle.script_tables.specs.Filter.{Answers}
use Rattle.rhai_script.specs.Contents.{contents, joined_over, combined}
use Rattle.rhai_script.specs.Renamed.{Apart}
use Rattle.rhai_script.proofs.Outcomes.{ok_follows}
use Rattle.rhai_script.proofs.ast.AST.combine_filtered.Goals as goal

pub returns-clause-ok : goal.returns-clause-ok
returns-clause-ok g c =
    let second = c.in_ok-other.other in
    let apart = subst (λ (l : FnLib). Apart l.functions (contents c.args.other) (contents second)) c.deref.ensures c.in_ok-other.ensures in
    let chosen = c.in_ok-lib.ensures.0 in
    let whole : joined_over c.in_ok-lib.lib.value c.args.self.now.source (contents c.args.self.now) (contents second) ≡ combined (contents c.args.self.now) (contents second) chosen = grind (arith, common_steps) in
    ok_follows c.combine_with.result _ _
    (λ e. (
      contents second,
      chosen,
      apart,
      subst (λ (table : FnLib). IsFiltered (Answers g.F.Fn) c.args.filter table.functions chosen) c.deref-3.ensures c.in_ok-lib.ensures.1,
      e ∙ whole,
    )) c.combine_with.ensures.ok
