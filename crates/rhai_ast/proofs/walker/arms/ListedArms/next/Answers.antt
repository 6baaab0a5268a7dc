use Rattle.std.proofs.Common.{sym, ◌∙◌}
use Rattle.rhai_ast.specs.Standing.{sides_standing}
use Rattle.rhai_ast.proofs.Steps.{made-none, made-some}
use Rattle.rhai_ast.proofs.walker.arms.ListedArms.next.Goals as goal

pub returns-in-Some-get-clause-standing : goal.returns-in-Some-get-clause-standing
returns-in-Some-get-clause-standing c =
    sym c.loop-place.invariant.standing ∙ made-some sides_standing c.loop-place.self c.next_place.new.self _ c.in-Some.place c.in-Some-get.arm c.in-Some.ensures.table c.in-Some.ensures.places c.as_slice.ensures c.in-Some-get.ensures.lookup

pub loop-place-preserved : goal.loop-place-preserved
loop-place-preserved c = record {
  table = c.in-Some.ensures.table ∙ c.loop-place.invariant.table;
  standing = sym (made-none sides_standing c.loop-place.self c.next_place.new.self _ c.in-Some.place c.get.result c.in-Some.ensures.table c.in-Some.ensures.places c.as_slice.ensures c.get.ensures.lookup c.in_default-get.not-Some) ∙ c.loop-place.invariant.standing;
}
