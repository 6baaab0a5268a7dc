use Rattle.std.proofs.Common.{◌≡◌, drop}
use Rattle.rhai_ast.proofs.EveryNode.{bodies_true}
use Rattle.rhai_ast.proofs.walker.every.every_body.Given as goal

abbrev pub invariant-loop-function : goal.invariant-loop-function
invariant-loop-function g l = bodies_true (g.T.NodeTest.holds l.test) l.functions ≡ bodies_true (g.T.NodeTest.holds l.test) (drop l.function-index l.functions)
