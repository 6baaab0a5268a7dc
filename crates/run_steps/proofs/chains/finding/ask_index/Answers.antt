use Rattle.run_steps.proofs.chains.finding.ask_index.Goals as goal

pub returns : goal.returns
returns g c next = rw (c.in_ok-name.ensures, c.in_ok-args.ensures) at (c.ask_for.ensures next)
