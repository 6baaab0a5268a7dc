use Rattle.std.proofs.Common.{◌-◌, ◌∷◌, [], length, drop, take}
use Rattle.theory_meaning.specs.Calls as calls
use Rattle.run_steps.specs.Setting.{setting}
use Rattle.run_state.proofs.WordAnswers.{first_one, only_one, type_word, word_with}
use Rattle.run_steps.proofs.steps.machine.Machine.word_value.Goals as goal

pub returns-in_ok-type_of-in-len1 : goal.returns-in_ok-type_of-in-len1
returns-in_ok-type_of-in-len1 g c = λ s next.
    rw c.in-TypeOf.is (word_with (setting g.H.Host.answers g.H.Host.modules c.args.self.now) s next calls.TypeOf c.args.args.now (c.value-item.result ∷ []) _ (only_one c.args.args.now c.value-item.result c.in-len1.len_at_least c.in-len1.len_below c.value-item.is)
    (type_word (setting g.H.Host.answers g.H.Host.modules c.args.self.now) s next c.value-item.result c.in_ok-type_of-in-len1.field-0 c.in_ok-type_of-in-len1.ensures))

pub returns-in-IsShared : goal.returns-in-IsShared
returns-in-IsShared g c = λ s next. rw c.in-IsShared.is (c.is_shared.ensures (setting g.H.Host.answers g.H.Host.modules c.args.self.now) s next)

pub returns-in_ok-pointer_to-in-len1-args : goal.returns-in_ok-pointer_to-in-len1-args
returns-in_ok-pointer_to-in-len1-args g c = λ s next.
    rw c.in-Fn.is (word_with (setting g.H.Host.answers g.H.Host.modules c.args.self.now) s next calls.Fn c.args.args.now (c.name-item.result ∷ []) _ (only_one c.args.args.now c.name-item.result c.in-len1-args.len_at_least c.in-len1-args.len_below c.name-item.is)
    (c.in_ok-pointer_to-in-len1-args.ensures (setting g.H.Host.answers g.H.Host.modules c.args.self.now) s))

pub returns-in_ok-curried-in-len1-up : goal.returns-in_ok-curried-in-len1-up
returns-in_ok-curried-in-len1-up g c = λ s next.
    rw c.in-Curry.is (word_with (setting g.H.Host.answers g.H.Host.modules c.args.self.now) s next calls.Curry c.args.args.now (c.pointer-item.result ∷ take (length c.args.args.now - 1) (drop 1 c.args.args.now)) _ (first_one c.args.args.now c.pointer-item.result c.in-len1-up.len_at_least c.pointer-item.is)
    (c.in_ok-curried-in-len1-up.ensures (setting g.H.Host.answers g.H.Host.modules c.args.self.now) s))
