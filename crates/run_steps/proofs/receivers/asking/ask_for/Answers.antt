use Rattle.theory_meaning.specs.Places.{without_place}
use Rattle.run_steps.proofs.receivers.asking.ask_for.Goals as goal

pub returns : goal.returns
returns g c next = rw c.in_ok-receiver.ensures at (c.in_ok-value.ensures (λ v u. next (without_place v)))
