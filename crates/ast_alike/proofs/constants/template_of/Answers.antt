use Rattle.std.proofs.Common.{◌≡◌, ℕ, List, [], ◌∷◌, ◌++◌, sym, ap, ◌∙◌, subst, append_assoc}
use Rattle.rhai_base.specs.declared.dynamic.Dynamic.{Dynamic}
use Rattle.ast_alike.proofs.Entries.{InOrder, blank_last, blanks_made}
use Rattle.ast_alike.proofs.constants.template_of.Goals as goal

pub loop-key-preserved : goal.loop-key-preserved
loop-key-preserved c =
    let done = c.loop-key.invariant.0 in
    let e : List ℕ × Dynamic = (c.in-Some.key.now, c.in-Some.field-0-1.now) in
    let left = c.next.new.self in
    let all : c.args.members.now ≡ done ++ e ∷ left = c.loop-key.invariant.1 ∙ ap (λ es. done ++ es) c.in-Some.ensures.steps in (
      done ++ e ∷ [],
      all ∙ sym (append_assoc done (e ∷ []) left),
      c.in_ok-insert.ensures.ok ∙ rw (c.in_ok-clone.ensures.cases, c.loop-key.invariant.2) (blank_last done e left (subst InOrder all c.iter-key-items.ensures.ordered)),
    )

pub returns-clause-keys : goal.returns-clause-keys
returns-clause-keys c = blanks_made _ c.loop-key.invariant.0 _ _ c.in-None.ensures.steps.0 c.loop-key.invariant.1 c.loop-key.invariant.2
