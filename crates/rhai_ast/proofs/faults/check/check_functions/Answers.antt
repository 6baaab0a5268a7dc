use Rattle.std.proofs.Common.{◌≡◌, ◌+◌, false, None, drop, not, sym, ap, subst, ◌∙◌}
use Rattle.ast_types.specs.declared.script_fn.ScriptFuncDef.{ScriptFuncDef}
use Rattle.theory_meaning.specs.Faults.{ReservedName, finding, is_reserved, unless, ◌then◌}
use Rattle.theory_meaning.specs.Walk.{outermost, over_stmts}
use Rattle.ast_types.specs.Reading.{stmts_of}
use Rattle.rhai_ast.specs.Standing.{statements_standing}
use Rattle.rhai_ast.specs.Refusals.{IsTheFirst, meant}
use Rattle.rhai_ast.specs.StandingFaults.{StandsAt, StandsInFunctions, defs_of}
use Rattle.rhai_ast.proofs.FoundLists.{found_functions}
use Rattle.rhai_ast.proofs.Standing.{found-first, free_if, leaves_with, none_then, on_each, on_first, passes, reserved_if, stands-body, stands-name, stands-others}
use Rattle.rhai_ast.proofs.faults.check.check_functions.Goals as goal

pub returns-in_err-check_name-clause-first : goal.returns-in_err-check_name-clause-first
returns-in_err-check_name-clause-first c =
    let fs = c.args.functions.now in
    let i = c.loop-function.function-index in
    let f = c.function-item.result in
    let there = c.deref.ensures ∙ ap (λ g. g.value) c.function-item.is in
    leaves_with c.from_residual.result c.in_err-check_name.field-0.0 (found_functions fs) _ _ c.from_residual.ensures.1
    (c.loop-function.invariant.so_far ∙ found-first fs i f c.loop-function-test.true c.deref.result.now there)
    c.in_err-check_name.ensures.first

pub returns-in_err-check_name-clause-stands : goal.returns-in_err-check_name-clause-stands
returns-in_err-check_name-clause-stands c =
    let fs = c.args.functions.now in
    let i = c.loop-function.function-index in
    let f = c.function-item.result in
    let d = c.deref.result.now in
    let there = c.deref.ensures ∙ ap (λ g. g.value) c.function-item.is in
    let e = c.in_err-check_name.field-0.0 in
    passes (StandsInFunctions (defs_of fs)) c.from_residual.result e c.from_residual.ensures.1
    (on_first (unless (not (is_reserved d.name)) ReservedName) (meant e.fault) _ c.in_err-check_name.ensures.first
    (λ g h.
    let q = reserved_if (is_reserved d.name) g h in
    c.loop-function.invariant.stands g e.position (subst (λ p. StandsInFunctions (defs_of (drop i fs)) g p) (sym c.in_err-check_name.ensures.position)
    (subst (λ a. StandsInFunctions (defs_of (drop i fs)) a d.body.span.start) (sym q.1) (stands-name fs i f c.loop-function-test.true d there q.0)))))

pub returns-in_err-check_stmts-clause-first : goal.returns-in_err-check_stmts-clause-first
returns-in_err-check_stmts-clause-first c =
    let fs = c.args.functions.now in
    let i = c.loop-function.function-index in
    let f = c.function-item.result in
    let d = c.deref-in-loop-function.result.now in
    let e = c.in_err-check_stmts.field-0.0 in
    let rest = found_functions (drop (i + 1) fs) in
    let there = c.deref-in-loop-function.ensures ∙ ap (λ g. g.value) c.function-item.is in
    let same : c.deref.result.now ≡ d = c.deref.ensures ∙ sym c.deref-in-loop-function.ensures in
    leaves_with c.from_residual-in_err-check_stmts.result e (found_functions fs) (over_stmts finding (stmts_of d.body.block) outermost) rest c.from_residual-in_err-check_stmts.ensures.1
    (c.loop-function.invariant.so_far ∙ found-first fs i f c.loop-function-test.true d there
    ∙ ap (λ o. o then (over_stmts finding (stmts_of d.body.block) outermost then rest)) (ap (λ (x : ScriptFuncDef). unless (not (is_reserved x.name)) ReservedName) (sym same) ∙ c.in_ok-check_name.ensures.first))
    (subst (λ ss. IsTheFirst (over_stmts finding (stmts_of ss) outermost) (meant e.fault)) c.statements.ensures c.in_err-check_stmts.ensures.first)

pub returns-in_err-check_stmts-clause-stands : goal.returns-in_err-check_stmts-clause-stands
returns-in_err-check_stmts-clause-stands c =
    let fs = c.args.functions.now in
    let i = c.loop-function.function-index in
    let f = c.function-item.result in
    let d = c.deref-in-loop-function.result.now in
    let e = c.in_err-check_stmts.field-0.0 in
    let there = c.deref-in-loop-function.ensures ∙ ap (λ g. g.value) c.function-item.is in
    let same : c.deref.result.now ≡ d = c.deref.ensures ∙ sym c.deref-in-loop-function.ensures in
    let free : is_reserved d.name ≡ false = ap (λ (x : ScriptFuncDef). is_reserved x.name) (sym same) ∙ free_if (is_reserved c.deref.result.now.name) c.in_ok-check_name.ensures.first in
    passes (StandsInFunctions (defs_of fs)) c.from_residual-in_err-check_stmts.result e c.from_residual-in_err-check_stmts.ensures.1
    (on_each (meant e.fault) (λ g. StandsAt outermost (statements_standing c.statements.result.now) g e.position) _
    (λ g k. c.loop-function.invariant.stands g e.position (stands-body fs i f c.loop-function-test.true d there g e.position free (subst (λ ss. StandsAt outermost (statements_standing ss) g e.position) c.statements.ensures k)))
    c.in_err-check_stmts.ensures.stands)

pub loop-function-preserved : goal.loop-function-preserved
loop-function-preserved c =
    let fs = c.args.functions.now in
    let i = c.loop-function.function-index in
    let f = c.function-item.result in
    let d = c.deref-in-loop-function.result.now in
    let rest = found_functions (drop (i + 1) fs) in
    let there = c.deref-in-loop-function.ensures ∙ ap (λ g. g.value) c.function-item.is in
    let same : c.deref.result.now ≡ d = c.deref.ensures ∙ sym c.deref-in-loop-function.ensures in
    let named : unless (not (is_reserved d.name)) ReservedName ≡ None = ap (λ (x : ScriptFuncDef). unless (not (is_reserved x.name)) ReservedName) (sym same) ∙ c.in_ok-check_name.ensures.first in
    let bare : over_stmts finding (stmts_of d.body.block) outermost ≡ None = ap (λ ss. over_stmts finding (stmts_of ss) outermost) (sym c.statements.ensures) ∙ c.in_ok-check_stmts.ensures.first in
    record {
      so_far = c.loop-function.invariant.so_far ∙ found-first fs i f c.loop-function-test.true d there
          ∙ ap (λ o. o then (over_stmts finding (stmts_of d.body.block) outermost then rest)) named ∙ ap (λ o. o then rest) bare;
      stands = λ g p k. c.loop-function.invariant.stands g p (stands-others fs i f c.loop-function-test.true d there g p (none_then (unless (not (is_reserved d.name)) ReservedName) (over_stmts finding (stmts_of d.body.block) outermost) named bare) k);
    }
