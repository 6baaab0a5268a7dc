use Rattle.std.proofs.Common.{rules}
use Rattle.rhai_ast.specs.Nodes.{node_of}
use Rattle.rhai_ast.proofs.Sizes.{below-next, below-start, measure-falls}
use Rattle.tool_command.proofs.reach.Reach.+reach.Goals as goal

pub add_all-loop-child-init : goal.add_all-loop-child-init
add_all-loop-child-init t c = below-start c.args.children c.into_iter-child-iterator.result c.into_iter-child-iterator.ensures.into_iter_gives

pub add_all-loop-child-preserved : goal.add_all-loop-child-preserved
add_all-loop-child-preserved t c = (below-next _ c.loop-child.child-iterator c.next.new.self c.in-Some.child c.in-Some.ensures.steps.0 c.loop-child.invariant).1

pub add_below-add_all-requires : goal.add_below-add_all-requires
add_below-add_all-requires t c =
    search (rules, measure-falls (node_of c.args.node) c.of-children.result c.of-children.ensures.children)
