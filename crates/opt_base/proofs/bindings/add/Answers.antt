use Rattle.std.proofs.Common.{◌≡◌, true, Some, None, [], ◌∷◌, is_some, sym, ap, ◌∙◌, rules}
use Rattle.std.proofs.lemmas.Result.{on_ok_weaker, on_err_weaker}
use Rattle.std.specs.BTreeMap.{get_by_text}
use Rattle.std.specs.String.{string_bytes}
use Rattle.opt_base.specs.Bindings.{held_in, read, with_newest}
use Rattle.opt_base.proofs.Maps.{Written, held-kept, held-laid, held-made}
use Rattle.opt_base.proofs.bindings.add.Goals as goal

pub returns-in-Some-clause-err : goal.returns-in-Some-clause-err
returns-in-Some-clause-err c =
    let m = c.args.bindings.now in
    let w = c.lay.new.list in
    let u : Written m (c.get_mut.follows.lender w) c.args.name.now (Some w) = (c.get_mut.follows.holds w).3 (search rules) in
    on_err_weaker c.lay.result (λ e. held-kept m (c.get_mut.follows.lender w) c.args.name.now c.in-Some.list.now w (sym c.in-Some.ensures.value) e u) c.lay.ensures.err

pub returns-in-Some-clause-ok : goal.returns-in-Some-clause-ok
returns-in-Some-clause-ok c =
    let m = c.args.bindings.now in
    let w = c.lay.new.list in
    let u : Written m (c.get_mut.follows.lender w) c.args.name.now (Some w) = (c.get_mut.follows.holds w).3 (search rules) in
    on_ok_weaker c.lay.result (λ e. held-laid m (c.get_mut.follows.lender w) c.args.name.now c.in-Some.list.now w c.args.binding (sym c.in-Some.ensures.value) e u) c.lay.ensures.ok

pub returns-in-Ok-clause-ok : goal.returns-in-Ok-clause-ok
returns-in-Ok-clause-ok c =
    let m = c.args.bindings.now in
    let key = c.in_ok-key.key in
    let e : string_bytes key ≡ c.args.name.now = c.in_ok-key.ensures.ok in
    let some : is_some c.args.binding ≡ true = search rules in
    let absent : get_by_text m c.args.name.now ≡ None = search rules in
    let one : c.in_ok-list.list.items ≡ c.args.binding ∷ [] = search rules in
    let u : Written m c.insert.new.self (string_bytes key) (Some c.in_ok-list.list) = search (rules, c.in-Ok.ensures.updates) in
    held-made m c.insert.new.self (string_bytes key) c.in_ok-list.list c.args.binding one some (ap (get_by_text m) e ∙ absent) u ∙ ap (λ x. with_newest x (read c.args.binding) (held_in m)) e
