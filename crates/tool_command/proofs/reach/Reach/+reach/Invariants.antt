-- A child is smaller than its node.
use Rattle.std.proofs.Common.{length}
use Rattle.rhai_ast.specs.Children.{AreBelow}
use Rattle.rhai_ast.specs.Left.{left_of}
use Rattle.rhai_ast.specs.Nodes.{node_of}
use Rattle.rhai_ast.proofs.Sizes.{above, below_measure, over_measure}
use Rattle.tool_command.proofs.reach.Reach.+reach.Given as goal

abbrev pub decreases-add_all : goal.decreases-add_all
decreases-add_all l = over_measure l.children

abbrev pub decreases-add_below : goal.decreases-add_below
decreases-add_below l = below_measure (node_of l.node)

abbrev pub invariant-add_all-loop-child : goal.invariant-add_all-loop-child
invariant-add_all-loop-child l = AreBelow (above (left_of l.fn.children)) (left_of l.child-iterator)

abbrev pub decreases-add_all-loop-child : goal.decreases-add_all-loop-child
decreases-add_all-loop-child l = length (left_of l.child-iterator)
