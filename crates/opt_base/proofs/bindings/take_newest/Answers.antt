use Rattle.std.proofs.Common.{◌≡◌, ◌-◌, Some, length, take, vec_len, sym, ap, ◌∙◌, rules, arith}
use Rattle.opt_base.proofs.Maps.{Written, held-popped}
use Rattle.opt_base.proofs.bindings.take_newest.Goals as goal

pub returns-in-Some : goal.returns-in-Some
returns-in-Some c =
    let m = c.args.bindings.now in
    let w = c.pop.new.self in
    let u : Written m (c.get_mut.follows.lender w) c.args.name.now (Some w) = (c.get_mut.follows.holds w).3 (search rules) in
    let len : vec_len c.in-Some.list.now ≡ length c.in-Some.list.now.items = omega (arith, c.in-Some.list.now.ok.0) in
    held-popped m (c.get_mut.follows.lender w) c.args.name.now c.in-Some.list.now w c.pop.result (sym c.in-Some.ensures.value) c.pop.ensures.items (c.pop.ensures.rest ∙ ap (λ k. take (k - 1) c.in-Some.list.now.items) len) u
