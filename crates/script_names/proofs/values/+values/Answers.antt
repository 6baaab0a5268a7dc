use Rattle.std.proofs.Common.{◌≡◌, ℕ, List, [], ◌∷◌, ◌++◌, sym, ap, ◌∙◌, append_assoc}
use Rattle.rhai_base.specs.declared.dynamic.Dynamic.{Dynamic}
use Rattle.rhai_base.specs.Reading.{members_of}
use Rattle.script_names.specs.Names.{stands}
use Rattle.script_names.proofs.Given.{ok_gives}
use Rattle.script_names.proofs.Lists.{values_made}
use Rattle.script_names.proofs.Members.{members_made, one_more_member}
use Rattle.script_names.proofs.values.+values.Goals as goal

pub renamed_items-returns : goal.renamed_items-returns
renamed_items-returns t c = values_made (stands c.args.names.now) _ _ _ c.loop-item-test.false c.loop-item.invariant

pub renamed_members-loop-key-preserved : goal.renamed_members-loop-key-preserved
renamed_members-loop-key-preserved t c =
    let done = c.loop-key.invariant.0 in
    let e : List ℕ × Dynamic = (c.in-Some.key.now, c.in-Some.member.now) in
    let left = c.next.new.self in
    let all : c.args.members.now ≡ done ++ e ∷ left = c.loop-key.invariant.1 ∙ ap (λ es. done ++ es) c.in-Some.ensures.steps in (
      done ++ e ∷ [],
      all ∙ sym (append_assoc done (e ∷ []) left),
      one_more_member (stands c.args.names.now) c.in_ok-made.made c.in_ok-copies.copies done left c.args.members.now e c.in_ok-made.copy
          c.iter-key-items.ensures.ordered all (ap members_of c.in_ok-made.ensures.0 ∙ c.loop-key.invariant.2)
          c.in_ok-copies.ensures (ok_gives _ c.in_ok-made.ensures.1 c.renamed_value.ensures),
    )

pub renamed_members-returns : goal.renamed_members-returns
renamed_members-returns t c = members_made (stands c.args.names.now) _ c.loop-key.invariant.0 _ _ c.in-None.ensures.steps.0 c.loop-key.invariant.1 c.loop-key.invariant.2
