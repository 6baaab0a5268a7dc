use Rattle.std.proofs.Common.{map, ap}
use Rattle.rhai_base.specs.Reading.{value_of}
use Rattle.run_places.specs.Reading.{key_meant}
use Rattle.run_steps.specs.Placing.{place_meant}
use Rattle.run_steps.specs.Setting.{setting}
use Rattle.run_steps.specs.Variables.{root_meant}
use Rattle.run_steps.proofs.FollowingSides.{assigns_from, reads_from}
use Rattle.run_steps.proofs.chains.following.follow_root.Goals as goal

pub returns-in_ok-follow-in-Ok-clause-reads : goal.returns-in_ok-follow-in-Ok-clause-reads
returns-in_ok-follow-in-Ok-clause-reads g c =
    reads_from (setting g.H.Host.answers g.H.Host.modules c.args.machine.now) c.args.state.now c.args.rest (root_meant c.args.root) (value_of c.in-Ok.value.now) c.in-Ok.ensures c.in_ok-follow-in-Ok.field-0.1 (place_meant c.in_ok-follow-in-Ok.field-0.0) _ (ap (λ ks. record { root = root_meant c.args.root; keys = map key_meant ks }) c.new-keys.ensures) c.in_ok-follow-in-Ok.ensures.follows

pub returns-in_ok-follow-in-Ok-clause-assigns : goal.returns-in_ok-follow-in-Ok-clause-assigns
returns-in_ok-follow-in-Ok-clause-assigns g c =
    assigns_from (setting g.H.Host.answers g.H.Host.modules c.args.machine.now) c.args.state.now c.args.rest (root_meant c.args.root) (value_of c.in-Ok.value.now) c.in-Ok.ensures c.in_ok-follow-in-Ok.field-0.1 (place_meant c.in_ok-follow-in-Ok.field-0.0) _ (ap (λ ks. record { root = root_meant c.args.root; keys = map key_meant ks }) c.new-keys.ensures) c.in_ok-follow-in-Ok.ensures.follows
