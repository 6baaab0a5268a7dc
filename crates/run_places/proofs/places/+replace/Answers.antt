use Rattle.std.proofs.Common.{◌≡◌, Some, None, SFits, w64, map, ap, sym, ◌∙◌}
use Rattle.std.proofs.lemmas.Int.{to_z-of_z}
use Rattle.std.proofs.lemmas.Result.{IfOk-weaker}
use Rattle.std.specs.BTreeMap.{is_at}
use Rattle.std.specs.Cmp.Lexicographic.{slice_cmp}
use Rattle.std.specs.Map.{set_value}
use Rattle.std.specs.Ordering.{nat_cmp}
use Rattle.std.specs.Prelude.{if◌then◌else◌}
use Rattle.rhai_base.specs.Reading.{value_of, members_of}
use Rattle.rhai_base.specs.Value.{MapV, fields}
use Rattle.theory_meaning.specs.Elements.{index_in}
use Rattle.run_places.specs.Reading.{key_meant}
use Rattle.run_places.proofs.AlongKeys.{no_element_written, element_written, entry_written, entry_kept, none_by}
use Rattle.run_places.proofs.places.+replace.Goals as goal

pub replace_element-returns-in_default-clause-ok : goal.replace_element-returns-in_default-clause-ok
replace_element-returns-in_default-clause-ok t c =
    let fits : SFits w64 c.args.index = c.ranges.index in
    let placed = simp to_z-of_z at c.index_in.ensures in
    no_element_written c.args.items.now c.args.index (map key_meant c.args.others.now) (value_of c.args.part) (ap (λ n. index_in n c.args.index) (sym c.len.ensures) ∙ sym placed ∙ none_by _ c.in_default.not-Some)

pub replace_element-returns-in-Some-get_mut-clause-ok : goal.replace_element-returns-in-Some-get_mut-clause-ok
replace_element-returns-in-Some-get_mut-clause-ok t c =
    let fits : SFits w64 c.args.index = c.ranges.index in
    let placed = simp to_z-of_z at c.index_in.ensures in
    IfOk-weaker c.replace_along.result _ _ (λ done q. element_written c.args.items.now c.args.index (map key_meant c.args.others.now) (value_of c.args.part) c.in-Some.place c.in-Some-get_mut.item.now c.replace_along.new.value (ap (λ n. index_in n c.args.index) (sym c.len.ensures) ∙ sym placed ∙ c.in-Some.is) c.in-Some-get_mut.ensures.value.0 c.in-Some-get_mut.ensures.value.1 done q) c.replace_along.ensures.ok

pub replace_entry-returns-in-Some-clause-ok : goal.replace_entry-returns-in-Some-clause-ok
replace_entry-returns-in-Some-clause-ok t c =
    let written : c.get_mut.follows.lender c.replace_along.new.value ≡ set_value (is_at (slice_cmp nat_cmp c.args.key.now)) c.args.members.now c.replace_along.new.value = rw c.in-Some.is at (c.get_mut.follows.holds c.replace_along.new.value) in
    IfOk-weaker c.replace_along.result _ _ (λ done q. entry_written c.args.members.now c.args.key.now (map key_meant c.args.others.now) (value_of c.args.part) c.in-Some.member.now c.replace_along.new.value c.in-Some.ensures.ordered (sym c.in-Some.ensures.value) done q ∙ ap (λ m. if done then Some (MapV (fields (members_of m))) else None) (sym written)) c.replace_along.ensures.ok

pub replace_entry-returns-in-Some-clause-kept : goal.replace_entry-returns-in-Some-clause-kept
replace_entry-returns-in-Some-clause-kept t c =
    let written : c.get_mut.follows.lender c.replace_along.new.value ≡ set_value (is_at (slice_cmp nat_cmp c.args.key.now)) c.args.members.now c.replace_along.new.value = rw c.in-Some.is at (c.get_mut.follows.holds c.replace_along.new.value) in
    IfOk-weaker c.replace_along.result _ _ (λ done q e. written ∙ entry_kept c.args.members.now c.args.key.now (map key_meant c.args.others.now) (value_of c.args.part) c.in-Some.member.now c.replace_along.new.value c.in-Some.ensures.ordered (sym c.in-Some.ensures.value) (q e)) c.replace_along.ensures.kept
