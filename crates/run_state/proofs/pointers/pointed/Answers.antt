use Rattle.std.proofs.lemmas.Result.{err_from_is_err_and}
use Rattle.run_state.proofs.Goes.{goes_then, stops_then}
use Rattle.run_state.proofs.PointerRuns.{pointed_first}
use Rattle.run_state.proofs.pointers.pointed.Goals as goal

pub returns-in_err-pointed_with-in-Some : goal.returns-in_err-pointed_with-in-Some
returns-in_err-pointed_with-in-Some c = λ here captures f s.
    let p = err_from_is_err_and c.from_residual.result c.from_residual.ensures.1 in
    rw (p.1, p.2) (stops_then here s _ (pointed_first here s captures f c.args.args.now c.in-Some.values.now c.in-Some.pointer.now c.in-Some.ensures.cases.0) (c.in_err-pointed_with-in-Some.ensures here captures s))

pub returns-in_ok-pointed_with-in-Some : goal.returns-in_ok-pointed_with-in-Some
returns-in_ok-pointed_with-in-Some c = λ here captures f s.
    goes_then here (pointed_first here s captures f c.args.args.now c.in-Some.values.now c.in-Some.pointer.now c.in-Some.ensures.cases.0) (c.in_ok-pointed_with-in-Some.ensures here captures s)
