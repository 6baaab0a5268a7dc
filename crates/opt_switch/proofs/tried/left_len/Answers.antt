use Rattle.std.proofs.Common.{◌≡◌, ◌+◌, ◌≤◌, Some, None, true, false, refl, ap, sym, rules, arith, ◌∙◌, drop, length}
use Rattle.std.specs.List.{cons_option, filter_map}
use Rattle.std.proofs.lemmas.Fn.{says_at}
use Rattle.ast_types.specs.Reading.{arms_of}
use Rattle.theory_rewriting.specs.Tables.{arm_of, arm_decides, left_arms}
use Rattle.opt_switch.proofs.Trying.{places-next, left-none, left-some}
use Rattle.opt_switch.proofs.tried.left_len.Goals as goal
use Rattle.opt_switch.proofs.tried.left_len.Goals.{in-Some+in-Some-false, in-Some+in-None, in_default}

pub returns-in-Some-true : goal.returns-in-Some-true
returns-in-Some-true g c = λ p says.
    let n = c.loop-entry.entry-index in
    let as' = arms_of c.args.arms.now in
    let rest = filter_map p (drop (n + 1) c.args.entries.now) in
    let next = places-next p c.args.entries.now n c.entry-item.result c.place_of.result c.loop-entry-test.true c.entry-item.is (says _ _ (says_at g.F.Fn c.place_of.ensures refl)) in
    let ends : arm_decides (arm_of as' c.in-Some.place) ≡ Some true = search rules in
    sym (c.loop-entry.invariant.1 p says ∙ ap (λ is. c.loop-entry.left + length (left_arms as' is)) next ∙ ap (λ k. c.loop-entry.left + k) (left-some as' rest c.place_of.result c.in-Some.place (Some true) c.in-Some.is ends))

pub loop-entry-preserved : goal.loop-entry-preserved
loop-entry-preserved g c =
    let few : c.match-place_of.left ≤ c.loop-entry.entry-index + 1 = elim c.match-place_of.branch [ in-Some+in-Some-false w ↦ search rules | in-Some+in-None w ↦ search rules | in_default w ↦ search rules ] in (
      few,
      λ p says.
          let n = c.loop-entry.entry-index in
          let as' = arms_of c.args.arms.now in
          let rest = filter_map p (drop (n + 1) c.args.entries.now) in
          let next = places-next p c.args.entries.now n c.entry-item.result c.place_of.result c.loop-entry-test.true c.entry-item.is (says _ _ (says_at g.F.Fn c.place_of.ensures refl)) in
          let more : c.loop-entry.left + length (left_arms as' (cons_option c.place_of.result rest)) ≡ c.match-place_of.left + length (left_arms as' rest) =
          elim c.match-place_of.branch [
            | in-Some+in-Some-false w ↦ omega (arith, w.left-is, left-some as' rest c.place_of.result w.in-Some.place (Some false) w.in-Some.is (search rules))
            | in-Some+in-None w ↦ omega (arith, w.left-is, left-some as' rest c.place_of.result w.in-Some.place None w.in-Some.is (search rules))
            | in_default w ↦ omega (arith, w.left-is, left-none as' rest c.place_of.result (search rules))
          ] in
          c.loop-entry.invariant.1 p says ∙ ap (λ is. c.loop-entry.left + length (left_arms as' is)) next ∙ more,
    )
