use Rattle.run_steps.proofs.chains.setting.set_index_by_host.Goals as goal

pub returns : goal.returns
returns g c = rw (c.in_ok-args.ensures, c.in_ok-name.ensures) at c.set_by_host.ensures
