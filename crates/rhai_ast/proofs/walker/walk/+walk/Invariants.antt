use Rattle.std.proofs.Common.{length}
use Rattle.std.specs.Fn.{always_mut}
use Rattle.rhai_ast.specs.Children.{AreBelow}
use Rattle.rhai_ast.specs.Left.{left_of}
use Rattle.rhai_ast.specs.Nodes.{node_of}
use Rattle.rhai_ast.proofs.Paths.{left_paths}
use Rattle.rhai_ast.proofs.Sizes.{above, below_measure, over_measure}
use Rattle.rhai_ast.proofs.Walking.{Partly}
use Rattle.rhai_ast.proofs.walker.walk.+walk.Given as goal

abbrev pub decreases-visit : goal.decreases-visit
decreases-visit g l = over_measure l.children

abbrev pub decreases-visit_below : goal.decreases-visit_below
decreases-visit_below g l = below_measure (node_of l.node)

abbrev pub invariant-visit-loop-child : goal.invariant-visit-loop-child
invariant-visit-loop-child g l = record {
  callable : always_mut g.F.FnMut l.on_node;
  so_far : Partly g.F.FnMut l.initial.path.items l.initial.on_node (left_paths l.initial.child-iterator) l.path.items l.on_node (left_paths l.child-iterator);
  below : AreBelow (above (left_of l.fn.children)) (left_of l.child-iterator);
}

abbrev pub decreases-visit-loop-child : goal.decreases-visit-loop-child
decreases-visit-loop-child g l = length (left_of l.child-iterator)
