use Rattle.std.proofs.Common.{◌≡◌, [], Ok, Err, refl, sym, subst, ◌∙◌, rules}
use Rattle.rhai_ast.specs.Nodes.{node_of}
use Rattle.rhai_ast.specs.Standing.{below, declared_of, standing_of}
use Rattle.rhai_ast.specs.Walking.{WalksOver, ended}
use Rattle.rhai_ast.proofs.Paths.{left_paths, over, over_none, paths-end, paths-next, paths_of, walked}
use Rattle.rhai_ast.proofs.Sizes.{below-next, below-start, measure-falls}
use Rattle.rhai_ast.proofs.Walking.{enter_stops, next_seen, next_stops, partly-end, partly-start, parts_seen, parts_stop}
use Rattle.rhai_ast.proofs.walker.walk.+walk.Goals as goal

pub visit-loop-child-init : goal.visit-loop-child-init
visit-loop-child-init g t c =
    record {
      callable = c.requires;
      so_far = partly-start g.F.FnMut _ _ _;
      below = below-start c.args.children c.into_iter-child-iterator.result c.into_iter-child-iterator.ensures.into_iter_gives;
    }

pub visit-loop-child-preserved : goal.visit-loop-child-preserved
visit-loop-child-preserved g t c =
    let now = c.loop-child in
    record {
      callable = c.in_ok-visit_below.ensures.callable;
      so_far = next_seen g.F.FnMut now.invariant.so_far (paths-next now.child-iterator c.next.new.self c.in-Some.child c.in-Some.ensures.steps.1) (parts_seen g.F.FnMut c.in-Some.child.node c.in_ok-enter.ensures.enters (walked g.F.FnMut c.in_ok-visit_below.ensures.walks) c.visit_below.new.path.ok.0 c.pop.ensures.rest);
      below = (below-next _ now.child-iterator c.next.new.self c.in-Some.child c.in-Some.ensures.steps.0 now.invariant.below).1;
    }

pub visit-returns-in_err-enter-clause-walks : goal.visit-returns-in_err-enter-clause-walks
visit-returns-in_err-enter-clause-walks g t c =
    let now = c.loop-child in
    let stopped = enter_stops g.F.FnMut (Err c.in_err-enter.field-0.0) c.in_err-enter.field-0.0 refl _ _ _ (paths_of (below (declared_of c.in-Some.child.node))) _ _ c.in_err-enter.ensures.enters in
    subst (λ cs. WalksOver g.F.FnMut c.args.path.now.items (ended c.from_residual.result) c.args.on_node.now (standing_of cs) c.enter.new.on_node c.enter.new.path.items) c.into_iter-child-iterator.ensures.into_iter_gives
    (over g.F.FnMut (next_stops g.F.FnMut _ _ c.from_residual.ensures.1 _ (left_paths c.next.new.self) _ _ now.invariant.so_far (paths-next now.child-iterator c.next.new.self c.in-Some.child c.in-Some.ensures.steps.1) stopped))

pub visit-returns-in_err-visit_below-clause-walks : goal.visit-returns-in_err-visit_below-clause-walks
visit-returns-in_err-visit_below-clause-walks g t c =
    let now = c.loop-child in
    let stopped = parts_stop g.F.FnMut (Err c.in_err-visit_below.field-0.0) c.in_err-visit_below.field-0.0 refl _ _ _ _ _ c.in_ok-enter.ensures.enters (walked g.F.FnMut c.in_err-visit_below.ensures.walks) in
    subst (λ cs. WalksOver g.F.FnMut c.args.path.now.items (ended c.from_residual-in_err-visit_below.result) c.args.on_node.now (standing_of cs) c.visit_below.new.on_node c.visit_below.new.path.items) c.into_iter-child-iterator.ensures.into_iter_gives
    (over g.F.FnMut (next_stops g.F.FnMut _ _ c.from_residual-in_err-visit_below.ensures.1 _ _ _ _ now.invariant.so_far (paths-next now.child-iterator c.next.new.self c.in-Some.child c.in-Some.ensures.steps.1) stopped))

pub visit-returns-clause-walks : goal.visit-returns-clause-walks
visit-returns-clause-walks g t c =
    let now = c.loop-child in
    let none : standing_of now.child-iterator ≡ [] = c.in-None.ensures.steps.1.0 in
    subst (λ cs. WalksOver g.F.FnMut c.args.path.now.items (ended (Ok tt)) c.args.on_node.now (standing_of cs) now.on_node now.path.items) c.into_iter-child-iterator.ensures.into_iter_gives
    (over g.F.FnMut (partly-end g.F.FnMut _ _ _ _ _ _ now.invariant.so_far (paths-end now.child-iterator none)))

pub visit_below-returns-then-are_of_leaf-clause-walks : goal.visit_below-returns-then-are_of_leaf-clause-walks
visit_below-returns-then-are_of_leaf-clause-walks g t c =
    over_none g.F.FnMut c.args.path.now.items c.args.on_node.now (below (declared_of c.args.node)) (sym c.of-children.ensures.standing ∙ c.are_of_leaf.ensures.nothing c.if-are_of_leaf.true)

pub visit_below-returns-else-are_of_leaf-clause-walks : goal.visit_below-returns-else-are_of_leaf-clause-walks
visit_below-returns-else-are_of_leaf-clause-walks g t c =
    subst (λ ns. WalksOver g.F.FnMut c.args.path.now.items (ended c.visit.result) c.args.on_node.now ns c.visit.new.on_node c.visit.new.path.items) c.of-children.ensures.standing c.visit.ensures.walks

pub visit_below-visit-requires : goal.visit_below-visit-requires
visit_below-visit-requires g t c =
    search (rules, measure-falls (node_of c.args.node) c.of-children.result c.of-children.ensures.children)
