use Rattle.std.proofs.Common.{◌≡◌, ◌+◌, ◌*◌, length}
use Rattle.rhai_ast.specs.Children.{AreBelow, size_of}
use Rattle.rhai_ast.specs.Left.{left_of}
use Rattle.rhai_ast.specs.Nodes.{node_of}
use Rattle.rhai_ast.proofs.Sizes.{above}
use Rattle.opt_base.proofs.NoneBelow.{left_none}
use Rattle.opt_base.proofs.evals.+evals.Given as goal

abbrev pub decreases-is_none_among : goal.decreases-is_none_among
decreases-is_none_among l = 3 * above (left_of l.children)

abbrev pub decreases-is_none_below : goal.decreases-is_none_below
decreases-is_none_below l = 3 * size_of (node_of l.node) + 1

abbrev pub decreases-is_none_in : goal.decreases-is_none_in
decreases-is_none_in l = 3 * size_of (node_of l.node) + 2

abbrev pub invariant-is_none_among-loop-child : goal.invariant-is_none_among-loop-child
invariant-is_none_among-loop-child l = record {
  so_far : left_none l.fn.children ≡ left_none l.child-iterator;
  below : AreBelow (above (left_of l.fn.children)) (left_of l.child-iterator);
}

abbrev pub decreases-is_none_among-loop-child : goal.decreases-is_none_among-loop-child
decreases-is_none_among-loop-child l = length (left_of l.child-iterator)
