use Rattle.rhai_ast.proofs.Walking.{Partly}
use Rattle.script_queries.proofs.Bodies.{bodies_paths}
use Rattle.script_queries.proofs.script.walk_bodies.Given as goal

abbrev pub invariant-loop-function : goal.invariant-loop-function
invariant-loop-function g l = record {
  callable : goal.F-IsAlwaysCallable g l.on_node;
  so_far : Partly g.F.FnMut l.fn.path.items l.fn.on_node (bodies_paths l.lib.functions) l.path.items l.on_node (bodies_paths l.function-iterator);
}
