use Rattle.std.proofs.Common.{◌≡◌, length}
use Rattle.base_tokens.specs.declared.position.Position.{Position}
use Rattle.theory_meaning.specs.Faults.{TreeFault}
use Rattle.rhai_ast.specs.Children.{AreBelow}
use Rattle.rhai_ast.specs.Left.{left_of}
use Rattle.rhai_ast.specs.Nodes.{node_of}
use Rattle.rhai_ast.specs.Standing.{standing_of}
use Rattle.rhai_ast.proofs.Sizes.{above, below_measure, over_measure}
use Rattle.rhai_ast.specs.Places.{around_of}
use Rattle.rhai_ast.specs.StandingFaults.{StandsAt}
use Rattle.rhai_ast.proofs.BelowFaults.{left_found}
use Rattle.rhai_ast.proofs.faults.check.+check.Given as goal

abbrev pub decreases-check_children : goal.decreases-check_children
decreases-check_children l = over_measure l.children

abbrev pub decreases-check_below : goal.decreases-check_below
decreases-check_below l = below_measure (node_of l.node)

abbrev pub invariant-check_children-loop-child : goal.invariant-check_children-loop-child
invariant-check_children-loop-child l = record {
  so_far : left_found l.fn.children (around_of l.inside) ≡ left_found l.child-iterator (around_of l.inside);
  stands : (f : TreeFault) (p : Position) → StandsAt (around_of l.inside) (standing_of l.child-iterator) f p → StandsAt (around_of l.inside) (standing_of l.fn.children) f p;
  below : AreBelow (above (left_of l.fn.children)) (left_of l.child-iterator);
}

abbrev pub decreases-check_children-loop-child : goal.decreases-check_children-loop-child
decreases-check_children-loop-child l = length (left_of l.child-iterator)
