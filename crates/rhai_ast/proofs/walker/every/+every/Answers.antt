use Rattle.std.proofs.Common.{sym, ap, ◌∙◌, rules}
use Rattle.rhai_ast.specs.Nodes.{node_of}
use Rattle.rhai_ast.proofs.EveryNode.{left_true, true-start}
use Rattle.rhai_ast.proofs.Sizes.{below-start, measure-falls}
use Rattle.rhai_ast.proofs.walker.every.+every.Goals as goal

pub every_child-loop-child-init : goal.every_child-loop-child-init
every_child-loop-child-init g t c =
    let same = sym c.into_iter-child-iterator.ensures.into_iter_gives in
    record { so_far = ap (left_true (g.T.NodeTest.holds c.args.test.now)) same; below = below-start c.args.children c.into_iter-child-iterator.result c.into_iter-child-iterator.ensures.into_iter_gives }

pub every_below-every_child-requires : goal.every_below-every_child-requires
every_below-every_child-requires g t c =
    search (rules, measure-falls (node_of c.args.node) c.of-children.result c.of-children.ensures.children)

pub every_below-returns-else-are_of_leaf : goal.every_below-returns-else-are_of_leaf
every_below-returns-else-are_of_leaf g t c = c.every_child.ensures ∙ sym (true-start (g.T.NodeTest.holds c.args.test.now) (node_of c.args.node) c.of-children.result c.of-children.ensures.children)
