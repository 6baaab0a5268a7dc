use Rattle.std.proofs.Common.{◌≤◌, ap, sym, subst, ◌∙◌}
use Rattle.std.specs.Borrow.{Bor}
use Rattle.ast_types.specs.declared.expr.Expr.TheViews as views
use Rattle.ast_types.specs.declared.switch.SwitchCasesCollection.{SwitchCasesCollection}
use Rattle.rhai_ast.specs.Arms.{default_of}
use Rattle.rhai_ast.proofs.Places.{by-ranges, case-past, case-some, cases-none}
use Rattle.rhai_ast.proofs.walker.arms.ListedArms.next_place.Goals as goal

pub returns-in-Some-clause-places : goal.returns-in-Some-clause-places
returns-in-Some-clause-places c =
    let of_table = c.as_map-cases.ensures ∙ ap (λ (t : Bor SwitchCasesCollection). (views.out-SwitchCasesCollection t.now).cases) (sym c.loop-self.invariant.table) in
    sym c.loop-self.invariant.places ∙ case-some _ _ _ _ _ _ _ c.in-Some.place _ of_table c.index-list.ensures c.as_slice.ensures c.in-Some.ensures.lookup

pub loop-self-preserved : goal.loop-self-preserved
loop-self-preserved c =
    let of_table = c.as_map-cases.ensures ∙ ap (λ (t : Bor SwitchCasesCollection). (views.out-SwitchCasesCollection t.now).cases) (sym c.loop-self.invariant.table) in
    record {
      table = c.loop-self.invariant.table;
      places = case-past _ _ _ _ _ _ _ _ _ of_table c.index-list.ensures c.as_slice.ensures c.in_default.ensures.lookup c.len-in-loop-self.ensures ∙ c.loop-self.invariant.places;
    }

pub returns-clause-places : goal.returns-clause-places
returns-clause-places c =
    let of_table = c.as_map-cases.ensures ∙ ap (λ (t : Bor SwitchCasesCollection). (views.out-SwitchCasesCollection t.now).cases) (sym c.loop-self.invariant.table) in
    let of_new = of_table ∙ ap (λ (t : Bor SwitchCasesCollection). (views.out-SwitchCasesCollection t.now).cases) (sym c.next_range.ensures.table) in
    by-ranges _ _ _ _ _ _ _
    (sym c.loop-self.invariant.places ∙ cases-none _ _ _ _ _ _ _ of_table c.len.ensures.len c.loop-self-test.false)
    (ap (λ (t : Bor SwitchCasesCollection). default_of t.now) (sym c.loop-self.invariant.table))
    (cases-none _ _ _ _ _ _ _ of_new c.len.ensures.len (subst (λ k. c.len.result ≤ k) (sym c.next_range.ensures.cases) c.loop-self-test.false))
    c.next_range.ensures.places
