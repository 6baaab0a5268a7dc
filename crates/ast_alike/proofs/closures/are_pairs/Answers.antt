use Rattle.std.proofs.Common.{◌≡◌, [], ◌∷◌, ◌++◌, sym, ap, ◌∙◌, subst, append-nil, append_assoc}
use Rattle.rhai_base.specs.Value.{Text}
use Rattle.ast_alike.specs.Scripts.{IsPair}
use Rattle.ast_alike.proofs.Pairs.{ArePaired, are_paired, one_more_pair}
use Rattle.ast_alike.proofs.closures.are_pairs.Goals as goal

pub loop-old-preserved : goal.loop-old-preserved
loop-old-preserved c =
    let back = c.args.back.now in
    let done = c.loop-old.invariant.0 in
    let e : Text × Text = (c.in-Some.old.now, c.in-Some.new.now) in
    let left = c.next.new.self in
    let all : c.args.names.now ≡ done ++ e ∷ left = c.loop-old.invariant.1 ∙ ap (λ es. done ++ es) c.in-Some.ensures.steps in (
      done ++ e ∷ [],
      all ∙ sym (append_assoc done (e ∷ []) left),
      one_more_pair back done e c.loop-old.invariant.2
          (subst (λ x. IsPair back c.in-Some.old.now x) (c.into_name-new.ensures.text ∙ c.in_ok-clone.ensures.cases) (c.is_pair.ensures c.if-not-is_pair.false)),
    )

pub returns : goal.returns
returns c = λ h.
    let back = c.args.back.now in
    let done = c.loop-old.invariant.0 in
    are_paired back c.args.names.now
    (subst (ArePaired back) (sym (c.loop-old.invariant.1 ∙ ap (λ es. done ++ es) c.in-None.ensures.steps.0 ∙ append-nil done)) c.loop-old.invariant.2)
