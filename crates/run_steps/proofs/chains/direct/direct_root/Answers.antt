use Rattle.std.proofs.Common.{subst, sym}
use Rattle.rhai_base.specs.Reading.{value_of}
use Rattle.run_places.specs.Reading.{part_value}
use Rattle.theory_meaning.specs.Meaning as meaning
use Rattle.run_steps.specs.Links.{rest_steps}
use Rattle.run_steps.specs.Placing.{read_base}
use Rattle.run_steps.specs.Setting.{setting}
use Rattle.run_steps.specs.Variables.{root_meant}
use Rattle.run_state.specs.Runs.{Acting, Goes, given}
use Rattle.run_steps.proofs.Following.{from_root}
use Rattle.run_steps.proofs.chains.direct.direct_root.Goals as goal

pub returns-in_ok-to_value-in-Some : goal.returns-in_ok-to_value-in-Some
returns-in_ok-to_value-in-Some g c = λ loop.
    let here = setting g.H.Host.answers g.H.Host.modules c.args.machine.now in
    let s = c.args.state.now in
    subst (λ v. Goes here (Acting (read_base (root_meant c.args.root) (λ x. meaning.steps here.world (rest_steps loop c.args.rest) x))) s (given v) s) (sym c.in_ok-to_value-in-Some.ensures)
    (from_root here s c.args.rest (root_meant c.args.root) (value_of c.in-Ok.value.now) (part_value c.in-Some.part) c.in-Ok.ensures c.in-Some.ensures loop)
