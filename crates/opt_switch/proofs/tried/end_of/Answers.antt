use Rattle.std.proofs.Common.{◌≡◌, ◌+◌, Some, true, refl, ap, sym, rules, arith, ◌∙◌, drop, map}
use Rattle.std.proofs.lemmas.Fn.{says_at}
use Rattle.ast_types.specs.Reading.{arms_of}
use Rattle.theory_rewriting.specs.Tables.{arm_of, arm_decides}
use Rattle.opt_switch.specs.Ends.{ends_with, end_of}
use Rattle.opt_switch.proofs.Trying.{place-next, end-next, end-goes}
use Rattle.opt_switch.proofs.tried.end_of.Goals as goal

pub returns-then-eq : goal.returns-then-eq
returns-then-eq g c = λ p says.
    let n = c.loop-entry.entry-index in
    let as' = arms_of c.args.arms.now in
    let next = place-next p c.args.entries.now n c.entry-item.result c.place_of.result c.loop-entry-test.true c.entry-item.is (says _ _ (says_at g.F.Fn c.place_of.ensures refl)) in
    let ends : arm_decides (arm_of as' c.place_of.result) ≡ Some true = search rules in
    sym (c.loop-entry.invariant.1 p says ∙ ap (λ is. c.loop-entry.end + end_of as' is) next ∙ ap (λ k. c.loop-entry.end + k) (end-next as' (map p (drop (n + 1) c.args.entries.now)) c.place_of.result (Some true) ends))

pub loop-entry-preserved : goal.loop-entry-preserved
loop-entry-preserved g c = (
  search rules,
  λ p says.
      let n = c.loop-entry.entry-index in
      let as' = arms_of c.args.arms.now in
      let rest = map p (drop (n + 1) c.args.entries.now) in
      let next = place-next p c.args.entries.now n c.entry-item.result c.place_of.result c.loop-entry-test.true c.entry-item.is (says _ _ (says_at g.F.Fn c.place_of.ensures refl)) in
      let goes = ap (λ d. ends_with d (end_of as' rest)) (sym c.decided.ensures) ∙ end-goes c.decided.result (end_of as' rest) (sym c.eq.ensures ∙ c.if-eq.false) in
      c.loop-entry.invariant.1 p says ∙ ap (λ is. c.loop-entry.end + end_of as' is) next ∙ omega (arith, goes),
)
