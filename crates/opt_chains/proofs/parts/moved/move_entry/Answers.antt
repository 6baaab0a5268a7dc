use Rattle.std.proofs.Common.{◌≡◌, Some, [], sym, ◌∙◌, subst}
use Rattle.std.specs.BTreeMap.{is_at}
use Rattle.std.specs.Cmp.Lexicographic.{slice_cmp}
use Rattle.std.specs.Map.{set_value}
use Rattle.std.specs.Ordering.{nat_cmp}
use Rattle.std.specs.Prelude.{IfSome}
use Rattle.rhai_base.specs.Reading.{value_of}
use Rattle.rhai_base.specs.Value.{UnitV}
use Rattle.run_places.proofs.AlongKeys.{entry_kept}
use Rattle.run_places.proofs.Parts.{entry_some}
use Rattle.opt_chains.specs.Answers.{allowed}
use Rattle.opt_chains.proofs.parts.moved.move_entry.Goals as goal

pub returns-in-Some-clause-moved : goal.returns-in-Some-clause-moved
returns-in-Some-clause-moved c =
    subst (λ u. IfSome c.move_out.result (λ v. allowed c.args.unit (Some u) ≡ Some (value_of v))) (sym (entry_some c.args.members.now c.args.key.now c.in-Some.member.now (sym c.in-Some.ensures.value))) c.move_out.ensures.moved

pub returns-in-Some-clause-kept : goal.returns-in-Some-clause-kept
returns-in-Some-clause-kept c =
    let written : c.get_mut.follows.lender c.move_out.new.place ≡ set_value (is_at (slice_cmp nat_cmp c.args.key.now)) c.args.members.now c.move_out.new.place = rw c.in-Some.is at (c.get_mut.follows.holds c.move_out.new.place) in
    λ e. written ∙ entry_kept c.args.members.now c.args.key.now [] UnitV c.in-Some.member.now c.move_out.new.place c.in-Some.ensures.ordered (sym c.in-Some.ensures.value) (c.move_out.ensures.kept e)
