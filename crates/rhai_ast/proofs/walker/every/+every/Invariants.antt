use Rattle.std.proofs.Common.{◌≡◌, length}
use Rattle.rhai_ast.specs.Children.{AreBelow}
use Rattle.rhai_ast.specs.Left.{left_of}
use Rattle.rhai_ast.specs.Nodes.{node_of}
use Rattle.rhai_ast.proofs.Sizes.{above, below_measure, over_measure}
use Rattle.rhai_ast.proofs.EveryNode.{left_true}
use Rattle.rhai_ast.proofs.walker.every.+every.Given as goal

abbrev pub decreases-every_child : goal.decreases-every_child
decreases-every_child g l = over_measure l.children

abbrev pub decreases-every_below : goal.decreases-every_below
decreases-every_below g l = below_measure (node_of l.node)

abbrev pub invariant-every_child-loop-child : goal.invariant-every_child-loop-child
invariant-every_child-loop-child g l = record {
  so_far : left_true (g.T.NodeTest.holds l.test) l.fn.children ≡ left_true (g.T.NodeTest.holds l.test) l.child-iterator;
  below : AreBelow (above (left_of l.fn.children)) (left_of l.child-iterator);
}

abbrev pub decreases-every_child-loop-child : goal.decreases-every_child-loop-child
decreases-every_child-loop-child g l = length (left_of l.child-iterator)
