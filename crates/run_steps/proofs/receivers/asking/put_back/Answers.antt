use Rattle.run_steps.proofs.receivers.asking.put_back.Goals as goal

pub returns : goal.returns
returns g c = let w = rw c.is_standing-differs.ensures at c.write_place.ensures in rw (c.in-Some.is, c.in-At.is) w
