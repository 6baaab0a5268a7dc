use Rattle.std.proofs.Common.{◌≡◌, ◌+◌, refl, ap, sym, rules, ◌∙◌, drop}
use Rattle.std.specs.List.{cons_option, filter_map}
use Rattle.std.proofs.lemmas.Fn.{says_at}
use Rattle.ast_types.specs.Reading.{arms_of}
use Rattle.opt_switch.specs.Choices.{behind, choice_behind}
use Rattle.opt_switch.proofs.Choosing.{choice-step}
use Rattle.opt_switch.proofs.Trying.{places-next}
use Rattle.opt_switch.proofs.choice.choice_of.Goals as goal
use Rattle.opt_switch.proofs.choice.choice_of.Goals.{in-Some, in_default}

pub loop-entry-preserved : goal.loop-entry-preserved
loop-entry-preserved g c = λ p says.
    let n = c.loop-entry.entry-index in
    let as' = arms_of c.args.arms.now in
    let rest = filter_map p (drop (n + 1) c.args.entries.now) in
    let next = places-next p c.args.entries.now n c.entry-item.result c.place_of.result c.loop-entry-test.true c.entry-item.is (says _ _ (says_at g.F.Fn c.place_of.ensures refl)) in
    let more : choice_behind c.loop-entry.choice as' (cons_option c.place_of.result rest) ≡ choice_behind c.match-place_of.choice as' rest =
    elim c.match-place_of.branch [
      | in-Some w ↦
          ap (λ o. choice_behind c.loop-entry.choice as' (cons_option o rest)) w.in-Some.is
          ∙ choice-step c.loop-entry.choice as' w.in-Some.place rest
          ∙ sym (ap (λ x. choice_behind x as' rest) (w.choice-is ∙ w.behind-choice.ensures ∙ ap (behind c.loop-entry.choice w.in-Some.place) w.decided.ensures))
      | in_default w ↦ search rules
    ] in
    c.loop-entry.invariant p says ∙ ap (choice_behind c.loop-entry.choice as') next ∙ more
