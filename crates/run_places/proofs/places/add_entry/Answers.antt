use Rattle.std.proofs.Common.{◌≡◌, ◌<◌, length, map, Some, ap, sym, refl, ◌∙◌, arith}
use Rattle.std.specs.BTreeMap.{insert_entry}
use Rattle.std.specs.Cmp.Lexicographic.{slice_cmp}
use Rattle.std.specs.Ordering.{nat_cmp}
use Rattle.std.proofs.lemmas.Bool.Decides.{nat_tests}
use Rattle.std.proofs.lemmas.List.{length-map}
use Rattle.rhai_base.specs.Reading.{value_of, members_of}
use Rattle.rhai_base.specs.Value.{MapV, fields}
use Rattle.run_places.specs.Reading.{key_meant}
use Rattle.run_places.proofs.AlongKeys.{no_entry_written, entry_added}
use Rattle.run_places.proofs.places.add_entry.Goals as goal

pub returns-then-not-is_empty-clause-ok : goal.returns-then-not-is_empty-clause-ok
returns-then-not-is_empty-clause-ok c missing =
    let some : 0 < length c.args.others.now = grind (arith, nat_tests) in
    let long : 0 < length (map key_meant c.args.others.now) = omega (arith, length-map c.args.others.now key_meant) in
    no_entry_written c.args.members.now c.args.key.now (map key_meant c.args.others.now) (value_of c.args.part) long missing

pub returns-clause-ok : goal.returns-clause-ok
returns-clause-ok c missing =
    let none : length c.args.others.now ≡ 0 = grind (arith, nat_tests) in
    let ends : length (map key_meant c.args.others.now) ≡ 0 = omega (arith, length-map c.args.others.now key_meant) in
    let added : insert_entry (slice_cmp nat_cmp) c.args.members.now c.args.key.now c.args.part ≡ c.insert.new.self = ap (λ k. insert_entry (slice_cmp nat_cmp) c.args.members.now k c.args.part) (sym c.in_ok-clone.ensures.cases) ∙ sym c.in_ok-insert.ensures.ok in
    entry_added c.args.members.now c.args.key.now (map key_meant c.args.others.now) (value_of c.args.part) c.args.part refl ends ∙ ap (λ m. Some (MapV (fields (members_of m)))) added
