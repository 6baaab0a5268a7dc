use Rattle.std.proofs.Common.{ap, sym}
use Rattle.rhai_base.specs.Reading.{value_of}
use Rattle.run_places.specs.Reading.{key_meant, part_value}
use Rattle.run_steps.specs.Direct.{KeySteps}
use Rattle.run_steps.specs.Placing.{place_meant}
use Rattle.run_steps.specs.Setting.{setting}
use Rattle.run_steps.proofs.FollowingSides.{follows_further, follows_part, follows_to_it}
use Rattle.run_steps.proofs.chains.following.+follow.Goals as goal

pub returns-in_default-rest-clause-follows : goal.returns-in_default-rest-clause-follows
returns-in_default-rest-clause-follows g t c =
    let here = setting g.H.Host.answers g.H.Host.modules c.args.machine.now in
    let key : KeySteps here c.args.state.now c.args.rest.chain c.link-link.result.argument.now (key_meant c.in-Some.key) = rw c.in-Some.is at c.in_ok-key.ensures in
    follows_to_it here c.args.state.now c.args.rest c.link-link.result c.link-link.ensures.steps (key_meant c.in-Some.key) key (value_of c.args.value.now) (part_value c.in-Some-inside.part) (sym c.in-Some-inside.ensures) (place_meant c.args.place) (place_meant c.in_ok-place.place) c.in_ok-place.ensures c.in_default-rest.is

pub returns-in-Missing-clause-follows : goal.returns-in-Missing-clause-follows
returns-in-Missing-clause-follows g t c =
    let here = setting g.H.Host.answers g.H.Host.modules c.args.machine.now in
    let key : KeySteps here c.args.state.now c.args.rest.chain c.link-link.result.argument.now (key_meant c.in-Some.key) = rw c.in-Some.is at c.in_ok-key.ensures in
    follows_part here c.args.state.now c.args.rest c.link-link.result c.link-link.ensures.steps (key_meant c.in-Some.key) key (value_of c.args.value.now) (part_value c.in-Some-inside.part) (sym c.in-Some-inside.ensures) (place_meant c.args.place) (place_meant c.in_ok-place.place) c.in_ok-place.ensures c.in-Some-rest.rest c.in-Some-rest.is

pub returns-in-Stored-clause-follows : goal.returns-in-Stored-clause-follows
returns-in-Stored-clause-follows g t c =
    let here = setting g.H.Host.answers g.H.Host.modules c.args.machine.now in
    let key : KeySteps here c.args.state.now c.args.rest.chain c.link-link.result.argument.now (key_meant c.in-Some.key) = rw c.in-Some.is at c.in_ok-key.ensures in
    follows_further here c.args.state.now c.args.rest c.link-link.result c.link-link.ensures.steps (key_meant c.in-Some.key) key (value_of c.args.value.now) (part_value c.in-Some-inside.part) (sym c.in-Some-inside.ensures) (place_meant c.args.place) (place_meant c.in_ok-place.place) c.in_ok-place.ensures c.in-Some-rest.rest c.in-Some-rest.is (value_of c.in-Stored.value.now) (ap part_value c.in-Stored.is) c.follow.result c.follow.ensures.follows
