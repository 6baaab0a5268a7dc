use Rattle.std.proofs.Common.{sym, ap, subst, ◌∙◌, rules}
use Rattle.rhai_ast.specs.Nodes.{node_of}
use Rattle.rhai_ast.specs.Standing.{below, declared_of, standing_of}
use Rattle.rhai_ast.proofs.Sizes.{below-next, below-start, measure-falls}
use Rattle.theory_meaning.specs.Faults.{fault_of, finding, ◌then◌}
use Rattle.theory_meaning.specs.Walk.{around_parts}
use Rattle.rhai_ast.specs.Children.{over_parts}
use Rattle.rhai_ast.specs.Places.{around_of}
use Rattle.rhai_ast.specs.Refusals.{Finds, meant}
use Rattle.rhai_ast.specs.StandingFaults.{Stands, StandsAt, fault_in}
use Rattle.rhai_ast.proofs.BelowFaults.{found-end, found-start, left_found}
use Rattle.rhai_ast.proofs.Standing.{found-next, leaves_with, on_each, on_first, passes, stands-below, stands-here, stands-later}
use Rattle.rhai_ast.proofs.faults.check.+check.Goals as goal

pub check_children-loop-child-init : goal.check_children-loop-child-init
check_children-loop-child-init t c =
    let same = c.into_iter-child-iterator.ensures.into_iter_gives in
    record {
      so_far = ap (λ cs. left_found cs (around_of c.args.inside)) (sym same);
      stands = λ f p k. subst (λ cs. StandsAt (around_of c.args.inside) (standing_of cs) f p) same k;
      below = below-start c.args.children c.into_iter-child-iterator.result same;
    }

pub check_children-loop-child-preserved : goal.check_children-loop-child-preserved
check_children-loop-child-preserved t c =
    let now = c.loop-child in
    let a = around_of c.args.inside in
    let b = around_of c.at-around.result in
    let own = c.in_ok-check_node.ensures.first in
    let under = c.in_ok-check_below.ensures.first in
    record {
      so_far = now.invariant.so_far ∙ found-next a b now.child-iterator c.next.new.self c.in-Some.child c.at-around.ensures c.in-Some.ensures.steps.0
          ∙ ap (λ o. o then (over_parts finding (node_of c.in-Some.child.node) (around_parts (node_of c.in-Some.child.node) b) then left_found c.next.new.self a)) own
          ∙ ap (λ o. o then left_found c.next.new.self a) under;
      stands = λ f p k. now.invariant.stands f p (stands-later a b now.child-iterator c.next.new.self c.in-Some.child c.at-around.ensures c.in-Some.ensures.steps.1 f p own under k);
      below = (below-next _ now.child-iterator c.next.new.self c.in-Some.child c.in-Some.ensures.steps.0 now.invariant.below).1;
    }

pub check_children-returns-in_err-check_node-clause-first : goal.check_children-returns-in_err-check_node-clause-first
check_children-returns-in_err-check_node-clause-first t c =
    let now = c.loop-child in
    let a = around_of c.args.inside in
    leaves_with c.from_residual.result c.in_err-check_node.field-0.0 _ _ _ c.from_residual.ensures.1
    (now.invariant.so_far ∙ found-next a (around_of c.at-around.result) now.child-iterator c.next.new.self c.in-Some.child c.at-around.ensures c.in-Some.ensures.steps.0)
    c.in_err-check_node.ensures.first

pub check_children-returns-in_err-check_node-clause-stands : goal.check_children-returns-in_err-check_node-clause-stands
check_children-returns-in_err-check_node-clause-stands t c =
    let now = c.loop-child in
    let a = around_of c.args.inside in
    let e = c.in_err-check_node.field-0.0 in
    passes (StandsAt a (standing_of c.args.children)) c.from_residual.result e c.from_residual.ensures.1
    (on_first (fault_of (around_of c.at-around.result) (node_of c.in-Some.child.node)) (meant e.fault) _ c.in_err-check_node.ensures.first
    (λ f h. now.invariant.stands f e.position (subst (StandsAt a (standing_of now.child-iterator) f) (sym c.in_err-check_node.ensures.position)
    (stands-here a (around_of c.at-around.result) now.child-iterator c.next.new.self c.in-Some.child c.at-around.ensures c.in-Some.ensures.steps.1 f h))))

pub check_children-returns-in_err-check_below-clause-first : goal.check_children-returns-in_err-check_below-clause-first
check_children-returns-in_err-check_below-clause-first t c =
    let now = c.loop-child in
    let a = around_of c.args.inside in
    let b = around_of c.at-around.result in
    leaves_with c.from_residual-in_err-check_below.result c.in_err-check_below.field-0.0 _ _ _ c.from_residual-in_err-check_below.ensures.1
    (now.invariant.so_far ∙ found-next a b now.child-iterator c.next.new.self c.in-Some.child c.at-around.ensures c.in-Some.ensures.steps.0
    ∙ ap (λ o. o then (over_parts finding (node_of c.in-Some.child.node) (around_parts (node_of c.in-Some.child.node) b) then left_found c.next.new.self a)) c.in_ok-check_node.ensures.first)
    c.in_err-check_below.ensures.first

pub check_children-returns-in_err-check_below-clause-stands : goal.check_children-returns-in_err-check_below-clause-stands
check_children-returns-in_err-check_below-clause-stands t c =
    let now = c.loop-child in
    let a = around_of c.args.inside in
    let b = around_of c.at-around.result in
    let e = c.in_err-check_below.field-0.0 in
    passes (StandsAt a (standing_of c.args.children)) c.from_residual-in_err-check_below.result e c.from_residual-in_err-check_below.ensures.1
    (on_each (meant e.fault) (λ f. StandsAt (around_parts (node_of c.in-Some.child.node) b) (below (declared_of c.in-Some.child.node)) f e.position) _
    (λ f k. now.invariant.stands f e.position (stands-below a b now.child-iterator c.next.new.self c.in-Some.child c.at-around.ensures c.in-Some.ensures.steps.1 f e.position c.in_ok-check_node.ensures.first k))
    c.in_err-check_below.ensures.stands)

pub check_children-returns-clause-first : goal.check_children-returns-clause-first
check_children-returns-clause-first t c =
    c.loop-child.invariant.so_far ∙ found-end c.loop-child.child-iterator (around_of c.args.inside) c.in-None.ensures.steps.0.0

pub check_below-check_children-requires : goal.check_below-check_children-requires
check_below-check_children-requires t c =
    search (rules, measure-falls (node_of c.args.node) c.of-children.result c.of-children.ensures.children)

pub check_below-returns-then-are_of_leaf-clause-first : goal.check_below-returns-then-are_of_leaf-clause-first
check_below-returns-then-are_of_leaf-clause-first t c =
    let around = around_parts (node_of c.args.node) (around_of c.args.around) in
    found-start (node_of c.args.node) c.of-children.result around c.of-children.ensures.children ∙ found-end c.of-children.result around (c.are_of_leaf.ensures.none c.if-are_of_leaf.true)

pub check_below-returns-else-are_of_leaf-clause-first : goal.check_below-returns-else-are_of_leaf-clause-first
check_below-returns-else-are_of_leaf-clause-first t c =
    let around = around_parts (node_of c.args.node) (around_of c.args.around) in
    subst (λ o. Finds o (fault_in c.check_children.result)) (sym (found-start (node_of c.args.node) c.of-children.result around c.of-children.ensures.children ∙ ap (left_found c.of-children.result) (sym c.of_children.ensures))) c.check_children.ensures.first

pub check_below-returns-else-are_of_leaf-clause-stands : goal.check_below-returns-else-are_of_leaf-clause-stands
check_below-returns-else-are_of_leaf-clause-stands t c =
    subst (λ a. Stands (StandsAt a (below (declared_of c.args.node))) c.check_children.result) c.of_children.ensures
    (subst (λ ss. Stands (StandsAt (around_of c.of_children.result) ss) c.check_children.result) c.of-children.ensures.standing c.check_children.ensures.stands)
