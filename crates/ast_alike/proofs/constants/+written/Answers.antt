use Rattle.std.proofs.Common.{◌≡◌, ℕ, List, [], ◌∷◌, ◌++◌, map, sym, ap, ◌∙◌, subst, append_assoc}
use Rattle.std.specs.Prelude.{IfOk}
use Rattle.rhai_base.specs.Reading.{value_of}
use Rattle.rhai_base.specs.Value.{values}
use Rattle.rhai_base.specs.declared.dynamic.Dynamic.{Dynamic}
use Rattle.theory_meaning.specs.Tree.{MapOf}
use Rattle.ast_types.specs.Reading.{expr_of, expr_of-Map, keys_of, pairs_of}
use Rattle.theory_spelling.specs.Bare.{curried_call, literals_of}
use Rattle.ast_alike.proofs.ByCases.{ok_gives, ok_matches, pointer_written}
use Rattle.ast_alike.proofs.Entries.{entries_made, one_more_entry, written_map}
use Rattle.ast_alike.proofs.Lists.{literals_made, named_item}
use Rattle.ast_alike.proofs.constants.+written.Goals as goal

pub literals_of-returns : goal.literals_of-returns
literals_of-returns t c = literals_made _ _ _ c.loop-item-test.false c.loop-item.invariant

pub entries_of-loop-key-preserved : goal.entries_of-loop-key-preserved
entries_of-loop-key-preserved t c =
    let done = c.loop-key.invariant.0 in
    let e : List ℕ × Dynamic = (c.in-Some.key.now, c.in-Some.member.now) in
    let left = c.next.new.self in
    let all : c.args.members.now ≡ done ++ e ∷ left = c.loop-key.invariant.1 ∙ ap (λ es. done ++ es) c.in-Some.ensures.steps in (
      done ++ e ∷ [],
      all ∙ sym (append_assoc done (e ∷ []) left),
      ap (map named_item) c.in_ok-entries-2.ensures
          ∙ one_more_entry c.in_ok-made.made _ done e (ap (map named_item) (ap (λ p. p.0) c.in_ok-made.ensures.0 ∙ c.in_ok-start.ensures.0) ∙ c.loop-key.invariant.2)
          (λ i. (ok_matches _ _ c.in_ok-made.ensures.1 c.clone.ensures.cases i, (ap (λ p. expr_of p.1) c.in_ok-made.ensures.0 ∙ ok_gives _ c.in_ok-start.ensures.1 c.literal_of.ensures) i)),
    )

pub entries_of-returns : goal.entries_of-returns
entries_of-returns t c = entries_made _ c.loop-key.invariant.0 _ _ c.in-None.ensures.steps.0 c.loop-key.invariant.1 c.loop-key.invariant.2

pub map_literal-returns : goal.map_literal-returns
map_literal-returns t c =
    expr_of-Map c.in_ok-new.field-0 _ ∙ ap (λ m. MapOf (pairs_of m.0) (keys_of m.1)) c.in_ok-new.ensures
    ∙ (λ i. MapOf ((ap pairs_of c.in_ok-parts.ensures.0 ∙ c.in_ok-entries.ensures) i) (ok_gives _ c.in_ok-parts.ensures.1 c.template_of.ensures.keys i))
    ∙ written_map c.args.members.now c.template_of.ensures.ordered

pub pointer_literal-returns : goal.pointer_literal-returns
pointer_literal-returns t c =
    let p = c.args.pointer.now in
    pointer_written c.curried_call.result p.name (values (map value_of p.curried))
    (subst (λ es. IfOk c.curried_call.result (λ e. expr_of e ≡ curried_call p.name es)) (c.in_ok-values.ensures ∙ ap (λ vs. literals_of (values (map value_of vs))) c.curry.ensures) c.curried_call.ensures.call)
    c.curried_call.ensures.valid
