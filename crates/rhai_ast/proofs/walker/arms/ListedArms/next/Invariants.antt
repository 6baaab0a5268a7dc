use Rattle.std.proofs.Common.{◌≡◌, length}
use Rattle.rhai_ast.specs.Arms.{places_left}
use Rattle.rhai_ast.specs.Standing.{arms_standing}
use Rattle.rhai_ast.proofs.walker.arms.ListedArms.next.Given as goal

abbrev pub invariant-loop-place : goal.invariant-loop-place
invariant-loop-place l = record {
  table : l.self.table ≡ l.fn.self.table;
  standing : arms_standing l.self ≡ arms_standing l.fn.self;
}

abbrev pub decreases-loop-place : goal.decreases-loop-place
decreases-loop-place l = length (places_left l.self)
