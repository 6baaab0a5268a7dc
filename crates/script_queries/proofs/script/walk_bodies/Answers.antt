use Rattle.std.proofs.Common.{◌≡◌, List, [], ◌∷◌, arith}
use Rattle.std.proofs.lemmas.Grind.{common_steps}
use Rattle.rhai_ast.specs.Standing.{statements_standing}
use Rattle.rhai_ast.specs.Walking.{Path}
use Rattle.rhai_ast.proofs.Paths.{over, paths_of, walked}
use Rattle.rhai_ast.proofs.Walking.{next_agrees, next_refuses, next_short, partly-end}
use Rattle.script_queries.proofs.Bodies.{bodies-end, bodies-next, bodies_paths}
use Rattle.script_queries.proofs.script.walk_bodies.Goals as goal

pub returns-in_err-walk_statements-clause-walks : goal.returns-in_err-walk_statements-clause-walks
returns-in_err-walk_statements-clause-walks g c =
    let all : List Path = bodies_paths c.args.lib.now.functions in
    let f = c.in-Some.function.now.value in
    let left : c.loop-function.function-iterator ≡ f ∷ c.next.new.self = grind (arith, common_steps) in
    over g.F.FnMut (next_short g.F.FnMut c.args.path.now.items c.args.on_node.now all c.loop-function.path.items c.loop-function.on_node (bodies_paths c.loop-function.function-iterator) c.loop-function.invariant.so_far (paths_of (statements_standing f.body.block)) (bodies_paths c.next.new.self) (bodies-next c.loop-function.function-iterator c.next.new.self f left) c.from_residual.result c.walk_statements.new.on_node c.walk_statements.new.path.items c.from_residual.ensures.0
    (walked g.F.FnMut (rw (c.statements.ensures, c.deref.ensures) at c.in_err-walk_statements.ensures.walks)))

pub returns-then-not-branch-clause-walks : goal.returns-then-not-branch-clause-walks
returns-then-not-branch-clause-walks g c =
    let all : List Path = bodies_paths c.args.lib.now.functions in
    let f = c.in-Some.function.now.value in
    let left : c.loop-function.function-iterator ≡ f ∷ c.next.new.self = grind (arith, common_steps) in
    over g.F.FnMut (next_refuses g.F.FnMut c.args.path.now.items c.args.on_node.now all c.loop-function.path.items c.loop-function.on_node (bodies_paths c.loop-function.function-iterator) c.loop-function.invariant.so_far (paths_of (statements_standing f.body.block)) (bodies_paths c.next.new.self) (bodies-next c.loop-function.function-iterator c.next.new.self f left) _ c.walk_statements.new.on_node c.walk_statements.new.path.items c.if-not-branch.true
    (walked g.F.FnMut (rw (c.statements.ensures, c.deref.ensures) at c.in_ok-walk_statements.ensures.walks)))

pub loop-function-preserved : goal.loop-function-preserved
loop-function-preserved g c =
    let all : List Path = bodies_paths c.args.lib.now.functions in
    let f = c.in-Some.function.now.value in
    let left : c.loop-function.function-iterator ≡ f ∷ c.next.new.self = grind (arith, common_steps) in
    record {
      callable = c.in_ok-walk_statements.ensures.callable;
      so_far = next_agrees g.F.FnMut c.args.path.now.items c.args.on_node.now all c.loop-function.path.items c.loop-function.on_node (bodies_paths c.loop-function.function-iterator) c.loop-function.invariant.so_far (paths_of (statements_standing f.body.block)) (bodies_paths c.next.new.self) (bodies-next c.loop-function.function-iterator c.next.new.self f left) _ c.walk_statements.new.on_node c.walk_statements.new.path.items c.if-not-branch.false
          (walked g.F.FnMut (rw (c.statements.ensures, c.deref.ensures) at c.in_ok-walk_statements.ensures.walks));
    }

pub returns-clause-walks : goal.returns-clause-walks
returns-clause-walks g c =
    let none : c.loop-function.function-iterator ≡ [] = grind (arith, common_steps) in
    over g.F.FnMut (partly-end g.F.FnMut c.args.path.now.items c.args.on_node.now (bodies_paths c.args.lib.now.functions) c.loop-function.path.items c.loop-function.on_node (bodies_paths c.loop-function.function-iterator) c.loop-function.invariant.so_far (bodies-end c.loop-function.function-iterator none))
