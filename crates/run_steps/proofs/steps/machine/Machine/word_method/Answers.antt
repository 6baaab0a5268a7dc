use Rattle.std.proofs.Common.{map}
use Rattle.std.proofs.lemmas.Result.{err_from_is_err_and}
use Rattle.rhai_base.specs.Reading.{value_of}
use Rattle.run_steps.specs.Setting.{setting}
use Rattle.run_state.proofs.WordAnswers.{curried_method, curried_method_stops, type_method}
use Rattle.run_steps.proofs.steps.machine.Machine.word_method.Goals as goal

pub returns-in_err-curried-in-Curry : goal.returns-in_err-curried-in-Curry
returns-in_err-curried-in-Curry g c = λ s next other.
    let here = setting g.H.Host.answers g.H.Host.modules c.args.self.now in
    let p = err_from_is_err_and c.from_residual-in_err-curried-in-Curry.result c.from_residual-in_err-curried-in-Curry.ensures.1 in
    rw (c.in-Curry.is, p.1, p.2) (curried_method_stops here s (value_of c.args.receiver.now) next other (map value_of c.args.args.now) _ (c.in_err-curried-in-Curry.ensures here s))

pub returns-in_ok-type_of-in-empty : goal.returns-in_ok-type_of-in-empty
returns-in_ok-type_of-in-empty g c = λ s next other.
    rw c.in-TypeOf.is (type_method (setting g.H.Host.answers g.H.Host.modules c.args.self.now) s (value_of c.args.receiver.now) next other c.args.args.now c.in-empty.len_below c.in_ok-type_of-in-empty.field-0 c.in_ok-type_of-in-empty.ensures)

pub returns-in-IsShared : goal.returns-in-IsShared
returns-in-IsShared g c = λ s next other. rw c.in-IsShared.is (c.is_shared_by.ensures (setting g.H.Host.answers g.H.Host.modules c.args.self.now) s (value_of c.args.receiver.now) next other)

pub returns-in_ok-curried-in-Curry : goal.returns-in_ok-curried-in-Curry
returns-in_ok-curried-in-Curry g c = λ s next other.
    let here = setting g.H.Host.answers g.H.Host.modules c.args.self.now in
    rw c.in-Curry.is (curried_method here s (value_of c.args.receiver.now) next other (map value_of c.args.args.now) c.in_ok-curried-in-Curry.field-0 (c.in_ok-curried-in-Curry.ensures here s))
