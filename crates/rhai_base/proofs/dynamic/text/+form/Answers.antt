use Rattle.std.proofs.Common.{rules, arith, ◌≡◌, ◌≤◌, length, ℕ, List, [], ◌∷◌, ◌++◌, codes, true, refl, sym, ap, ◌∙◌, append_assoc, append-nil}
use Rattle.std.proofs.lemmas.List.{drop_all}
use Rattle.std.proofs.Output.{has_written_append, has_written_of_eq, writes_in_calls_nil}
use Rattle.rhai_base.specs.declared.dynamic.Dynamic.{Dynamic}
use Rattle.rhai_base.specs.Reading.{value_of}
use Rattle.rhai_base.specs.Value.{Text, form}
use Rattle.rhai_base.proofs.Forms.{range_written, range_inclusive_written, items_after, item_written, members_after, member_written, members_framed, pointer_framed}
use Rattle.rhai_base.proofs.dynamic.text.+form.Goals as goal

pub write_form-returns-in-Range : goal.write_form-returns-in-Range
write_form-returns-in-Range g t c plain ok =
    has_written_of_eq _ _ _ _ _ (range_written c.args.full _ c.in-Range.from c.in-Range.to c.in-Range.is) (c.write-in-Range.ensures.writes plain ok)

pub write_form-returns-in-RangeInclusive : goal.write_form-returns-in-RangeInclusive
write_form-returns-in-RangeInclusive g t c plain ok =
    has_written_of_eq _ _ _ _ _ (range_inclusive_written c.args.full _ c.in-RangeInclusive.from c.in-RangeInclusive.to c.in-RangeInclusive.is)
    (c.write-in-RangeInclusive.ensures.writes plain ok)

pub write_items-loop-item-init : goal.write_items-loop-item-init
write_items-loop-item-init g t c = (
  [],
  ap (items_after c.args.full []) c.as_slice-item-items.ensures,
  λ plain. record { wrote = writes_in_calls_nil _ _; plain = plain },
  ([], (refl, refl)),
)

pub write_items-loop-item-preserved : goal.write_items-loop-item-preserved
write_items-loop-item-preserved g t c =
    let written = c.loop-item.invariant.0 in
    let separator = c.loop-item.separator.now in (
      (written ++ separator) ++ form c.args.full (value_of c.item-item.result),
      item_written c.args.full written separator _ c.as_slice-item-items.result.now c.loop-item.item-index c.item-item.result (search rules) c.item-item.is c.loop-item.invariant.1,
      λ plain.
          let before = c.loop-item.invariant.2 plain in
          let separated = c.in_ok-write_str-2.ensures.writes before.plain (refl {a = true}) in
          has_written_append _ _ _ _ _ _ (has_written_append _ _ _ _ _ _ before separated) (c.in_ok-write_form.ensures separated.plain (refl {a = true})),
      search rules,
    )

pub write_members-loop-key-init : goal.write_members-loop-key-init
write_members-loop-key-init g t c =
    let all = c.into_iter-key-iterator.ensures.into_iter_gives ∙ c.iter-key-items.ensures.rest in (
      [],
      sym all,
      [],
      ap (members_after c.args.full []) all,
      λ plain. record { wrote = writes_in_calls_nil _ _; plain = plain },
      ([], (refl, refl)),
    )

pub write_members-loop-key-preserved : goal.write_members-loop-key-preserved
write_members-loop-key-preserved g t c =
    let done = c.loop-key.invariant.0 in
    let written = c.loop-key.invariant.2 in
    let separator = c.loop-key.before.now in
    let e : List ℕ × Dynamic = (c.in-Some.key.now, c.in-Some.member.now) in
    let left = c.next.new.self in (
      done ++ e ∷ [],
      c.loop-key.invariant.1 ∙ ap (λ es. done ++ es) c.in-Some.ensures.steps ∙ sym (append_assoc done (e ∷ []) left),
      (written ++ (separator ++ (codes "\"" ++ (e.0 ++ codes "\": ")))) ++ form c.args.full (value_of e.1),
      member_written c.args.full written separator _ e left (ap (λ es. written ++ members_after c.args.full separator es) (sym c.in-Some.ensures.steps) ∙ c.loop-key.invariant.3),
      λ plain.
          let before = c.loop-key.invariant.4 plain in
          let keyed = has_written_of_eq _ _ _ _ _ (ap (λ k. separator ++ (codes "\"" ++ (k ++ codes "\": "))) c.as_str.ensures) (c.in_ok-write.ensures.writes before.plain (refl {a = true})) in
          has_written_append _ _ _ _ _ _ (has_written_append _ _ _ _ _ _ before keyed) (c.in_ok-write_form.ensures keyed.plain (refl {a = true})),
      search rules,
    )

pub write_members-returns : goal.write_members-returns
write_members-returns g t c plain ok =
    let written = c.loop-key.invariant.2 in
    let opened = c.in_ok-write_str.ensures.writes plain (refl {a = true}) in
    let inside = c.loop-key.invariant.4 opened.plain in
    let closed = c.write_str-2.ensures.writes inside.plain ok in
    let all = sym (append-nil written) ∙ ap (λ es. written ++ members_after c.args.full c.loop-key.before.now es) (sym c.in-None.ensures.steps.0) ∙ c.loop-key.invariant.3 in
    has_written_of_eq _ _ _ _ _ (ap (λ t. codes "#{" ++ (t ++ codes "}")) all ∙ members_framed c.args.full c.args.members.now)
    (has_written_append _ _ _ _ _ _ opened (has_written_append _ _ _ _ _ _ inside closed))

pub write_pointer-loop-value-init : goal.write_pointer-loop-value-init
write_pointer-loop-value-init g t c =
    ([], ap (items_after true (codes ", ")) c.curry-value-items.ensures, λ plain. record { wrote = writes_in_calls_nil _ _; plain = plain })

pub write_pointer-loop-value-preserved : goal.write_pointer-loop-value-preserved
write_pointer-loop-value-preserved g t c =
    let written = c.loop-value.invariant.0 in (
      (written ++ codes ", ") ++ form true (value_of c.value-item.result),
      item_written true written (codes ", ") _ c.curry-value-items.result.now c.loop-value.value-index c.value-item.result (search rules) c.value-item.is c.loop-value.invariant.1,
      λ plain.
          let before = c.loop-value.invariant.2 plain in
          let separated = c.in_ok-write_str.ensures.writes before.plain (refl {a = true}) in
          has_written_append _ _ _ _ _ _ (has_written_append _ _ _ _ _ _ before separated) (c.in_ok-write_form.ensures separated.plain (refl {a = true})),
    )

pub write_pointer-returns : goal.write_pointer-returns
write_pointer-returns g t c plain ok =
    let written = c.loop-value.invariant.0 in
    let opened = has_written_of_eq _ _ _ _ _ (ap (λ (n : Text). codes "Fn(" ++ n) c.fn_name.ensures.name) (c.in_ok-write.ensures.writes plain (refl {a = true})) in
    let inside = c.loop-value.invariant.2 opened.plain in
    let closed = c.write_str-2.ensures.writes inside.plain ok in
    let end : length c.curry-value-items.result.now ≤ c.loop-value.value-index = omega arith in
    let all : written ≡ items_after true (codes ", ") c.args.pointer.now.curried =
    sym (append-nil written) ∙ ap (λ xs. written ++ items_after true (codes ", ") xs) (sym (drop_all c.loop-value.value-index c.curry-value-items.result.now end)) ∙ c.loop-value.invariant.1 in
    has_written_of_eq _ _ _ _ _ (ap (λ t. (codes "Fn(" ++ c.args.pointer.now.name) ++ (t ++ codes ")")) all ∙ pointer_framed c.args.pointer.now.name c.args.pointer.now.curried)
    (has_written_append _ _ _ _ _ _ opened (has_written_append _ _ _ _ _ _ inside closed))
