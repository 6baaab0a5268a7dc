use Rattle.std.proofs.Common.{◌≡◌, false, sym, ap, subst, ◌∙◌}
use Rattle.script_tables.specs.declared.fn_lib.FnLib.{FnLib}
use Rattle.script_tables.proofs.Choices.{ok_alike}
use Rattle.rhai_script.specs.Contents.{contents}
use Rattle.rhai_script.specs.Renamed.{Apart, as_it_is, clash}
use Rattle.rhai_script.proofs.Taken.{in_some, in_none}
use Rattle.rhai_script.proofs.ast.AST.merge_filtered.Goals as goal

pub returns-in-Some : goal.returns-in-Some
returns-in-Some g c =
    let apart = subst (λ (l : FnLib). Apart l.functions (contents c.args.other.now) (contents c.in-Some.marked)) c.deref.ensures (in_some _ _ _ _ c.in-Some.is c.in_ok-copy.ensures) in
    ok_alike c.with_some_of.result _ _ (λ s e. (contents c.in-Some.marked, e.0, apart, e.1, e.2)) c.with_some_of.ensures

pub returns : goal.returns
returns g c =
    let none = ap (λ (l : FnLib). clash 0 l.functions c.args.other.now.lib.value.functions) (sym c.deref.ensures) ∙ in_none _ _ _ c.in-None.is c.in_ok-copy.ensures in
    ok_alike c.with_some_of-in-None.result _ _ (λ s e. (contents c.args.other.now, e.0, as_it_is none, e.1, e.2)) c.with_some_of-in-None.ensures
