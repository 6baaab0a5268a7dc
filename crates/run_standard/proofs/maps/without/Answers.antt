use Rattle.std.proofs.Common.{◌≡◌, ℕ, List, [], ◌∷◌, ◌++◌, sym, ap, ◌∙◌, subst, append_assoc, nat_cmp}
use Rattle.std.specs.Cmp.Lexicographic.{slice_cmp}
use Rattle.std.specs.List.Sorted.{IsStrictlySortedBy}
use Rattle.std.specs.Map.{keys_of}
use Rattle.rhai_base.specs.declared.dynamic.Dynamic.{Dynamic}
use Rattle.rhai_base.specs.Reading.{members_of}
use Rattle.rhai_base.specs.Value.{fields}
use Rattle.run_standard.specs.Maps.{without_entry}
use Rattle.std.proofs.lemmas.List.{append-nil}
use Rattle.run_standard.proofs.Entries.{others-step, others-fields}
use Rattle.run_standard.proofs.maps.without.Goals as goal

pub loop-other-preserved : goal.loop-other-preserved
loop-other-preserved c =
    let done = c.loop-other.invariant.0 in
    let e : List ℕ × Dynamic = (c.in-Some.other.now, c.in-Some.value.now) in
    let left = c.next.new.self in
    let all : c.args.members.now ≡ done ++ e ∷ left = c.loop-other.invariant.1 ∙ ap (λ es. done ++ es) c.in-Some.ensures.steps in (
      done ++ e ∷ [],
      all ∙ sym (append_assoc done (e ∷ []) left),
      c.in_ok-put_other.ensures ∙ rw c.loop-other.invariant.2
          (others-step c.args.key.now done e left (subst (λ es. IsStrictlySortedBy (slice_cmp nat_cmp) (keys_of es)) all c.iter-other-items.ensures.ordered)),
    )

pub returns : goal.returns
returns c =
    let done = c.loop-other.invariant.0 in
    let nil : c.loop-other.other-iterator ≡ [] = c.in-None.ensures.steps.0 in
    let all : c.args.members.now ≡ done = c.loop-other.invariant.1 ∙ ap (λ es. done ++ es) nil ∙ append-nil done in
    ap (λ es. fields (members_of es)) c.loop-other.invariant.2 ∙ others-fields c.args.key.now done ∙ ap (λ es. without_entry (fields (members_of es)) c.args.key.now) (sym all)
