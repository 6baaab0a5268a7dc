use Rattle.std.proofs.Common.{◌≡◌, ◌<◌, refl, sym, ap, ◌∙◌, arith}
use Rattle.script_tables.specs.declared.fn_lib.FnLib.{FnLib}
use Rattle.rhai_script.specs.Renamed.{clash, with_marks}
use Rattle.rhai_script.proofs.ast.AST.marked_apart.Goals as goal

pub returns-then-marks-eq0 : goal.returns-then-marks-eq0
returns-then-marks-eq0 c =
    let fs = c.args.lib.now.functions in
    ap (λ k. clash k fs c.args.self.now.lib.value.functions) (sym c.if-marks-eq0.true)
    ∙ ap (λ (l : FnLib). clash c.in_ok-marks.marks fs l.functions) (sym c.deref.ensures) ∙ c.in_ok-marks.ensures.apart

pub returns : goal.returns
returns c =
    let fs = c.args.lib.now.functions in
    let some : 0 < c.in_ok-marks.marks = omega arith in
    with_marks c.in_ok-marks.marks some
    (ap (λ (l : FnLib). clash c.in_ok-marks.marks fs l.functions) (sym c.deref.ensures) ∙ c.in_ok-marks.ensures.apart)
    (λ k h. ap (λ (l : FnLib). clash k fs l.functions) (sym c.deref.ensures) ∙ c.in_ok-marks.ensures.least k h)
    (c.in_ok-renamed.ensures.marked c.in_ok-marks.marks refl)
