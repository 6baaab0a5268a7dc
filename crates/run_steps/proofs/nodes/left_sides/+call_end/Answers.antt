use Rattle.ast_types.proofs.Cases.{expr_cases}
use Rattle.rhai_ast.specs.Nodes.{is_dot}
use Rattle.run_steps.proofs.LeftSides.{no_call_end}
use Rattle.run_steps.proofs.nodes.left_sides.+call_end.Goals as goal

pub returns-in_default : goal.returns-in_default
returns-in_default t c = no_call_end (is_dot c.args.chain) c.args.is_last (expr_cases c.args.right.now) c.in_default.not-MethodCall c.in_default.not-Dot c.in_default.not-Index
