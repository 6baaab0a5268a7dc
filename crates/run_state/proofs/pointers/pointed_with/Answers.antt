use Rattle.std.proofs.Common.{[], ◌∷◌, ◌∙◌, ap}
use Rattle.run_state.proofs.PointerRuns.{pointed_goes, pointed_stuck}
use Rattle.run_state.proofs.pointers.pointed_with.Goals as goal

pub returns-in_default : goal.returns-in_default
returns-in_default c = λ here captures s. pointed_stuck here s captures [] (c.args.pointer.now ∷ c.args.values.now) c.args.values.now c.args.pointer.now (λ i. c.args.pointer.now ∷ c.args.values.now) c.in_default.not-FnPtr

pub returns : goal.returns
returns c = λ here captures s.
    pointed_goes here s captures [] (c.args.pointer.now ∷ c.args.values.now) c.args.values.now c.in-FnPtr.pointer c.in_ok-name.name c.in_ok-all_args.field-0
    (ap (λ v. v ∷ c.args.values.now) c.in-FnPtr.is) (c.in_ok-name.ensures ∙ c.fn_name.ensures.name) c.in_ok-all_args.ensures
