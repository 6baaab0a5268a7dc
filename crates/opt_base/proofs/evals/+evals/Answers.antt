use Rattle.std.proofs.Common.{sym, ap, ◌∙◌, rules, arith}
use Rattle.rhai_ast.specs.Nodes.{node_of}
use Rattle.rhai_ast.proofs.Sizes.{below-start, measure-falls}
use Rattle.opt_base.proofs.NoneBelow.{left_none, none-start}
use Rattle.opt_base.proofs.evals.+evals.Goals as goal

pub is_none_among-loop-child-init : goal.is_none_among-loop-child-init
is_none_among-loop-child-init t c =
    let same = sym c.into_iter-child-iterator.ensures.into_iter_gives in
    record { so_far = ap left_none same; below = below-start c.args.children c.into_iter-child-iterator.result c.into_iter-child-iterator.ensures.into_iter_gives }

pub is_none_below-is_none_among-requires : goal.is_none_below-is_none_among-requires
is_none_below-is_none_among-requires t c =
    omega (arith, measure-falls (node_of c.args.node) c.of-children.result c.of-children.ensures.children)

pub is_none_below-returns-else-are_of_leaf : goal.is_none_below-returns-else-are_of_leaf
is_none_below-returns-else-are_of_leaf t c = c.is_none_among.ensures ∙ sym (none-start (node_of c.args.node) c.of-children.result c.of-children.ensures.children)
