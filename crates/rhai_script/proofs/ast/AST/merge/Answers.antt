use Rattle.std.proofs.Common.{◌≡◌, false, sym, ap, subst, ◌∙◌}
use Rattle.script_tables.specs.declared.fn_lib.FnLib.{FnLib}
use Rattle.script_tables.proofs.Choices.{ok_alike}
use Rattle.rhai_script.specs.Contents.{contents}
use Rattle.rhai_script.specs.Renamed.{Apart, as_it_is, clash}
use Rattle.rhai_script.proofs.Taken.{in_some, in_none}
use Rattle.rhai_script.proofs.ast.AST.merge.Goals as goal

pub returns-in-Some : goal.returns-in-Some
returns-in-Some c =
    let apart = subst (λ (l : FnLib). Apart l.functions (contents c.args.other.now) (contents c.in-Some.marked)) c.deref.ensures (in_some _ _ _ _ c.in-Some.is c.in_ok-copy.ensures) in
    ok_alike c.with_all_of.result _ _ (λ s e. (contents c.in-Some.marked, apart, e)) c.with_all_of.ensures

pub returns-in-None : goal.returns-in-None
returns-in-None c =
    let none = ap (λ (l : FnLib). clash 0 l.functions c.args.other.now.lib.value.functions) (sym c.deref.ensures) ∙ in_none _ _ _ c.in-None.is c.in_ok-copy.ensures in
    ok_alike c.with_all_of-in-None.result _ _ (λ s e. (contents c.args.other.now, as_it_is none, e)) c.with_all_of-in-None.ensures
