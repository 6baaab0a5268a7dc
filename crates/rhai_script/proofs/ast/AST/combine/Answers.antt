use Rattle.std.proofs.Common.{◌≡◌, subst, ◌∙◌, arith}
use Rattle.std.proofs.lemmas.Grind.{common_steps}
use Rattle.script_tables.specs.declared.fn_lib.FnLib.{FnLib}
use Rattle.rhai_script.specs.Contents.{combined, contents, joined_over}
use Rattle.rhai_script.specs.Renamed.{Apart}
use Rattle.rhai_script.proofs.Outcomes.{ok_follows}
use Rattle.rhai_script.proofs.ast.AST.combine.Goals as goal

pub returns-clause-ok : goal.returns-clause-ok
returns-clause-ok c =
    let second = c.in_ok-other.other in
    let apart = subst (λ (l : FnLib). Apart l.functions (contents c.args.other) (contents second)) c.deref.ensures c.in_ok-other.ensures in
    let whole : joined_over c.in_ok-lib.lib.value c.args.self.now.source (contents c.args.self.now) (contents second) ≡ combined (contents c.args.self.now) (contents second) second.lib.value.functions = grind (arith, common_steps) in
    ok_follows c.combine_with.result _ _ (λ e. (contents second, apart, e ∙ whole)) c.combine_with.ensures.ok
