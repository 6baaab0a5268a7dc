use Rattle.std.proofs.Common.{◌∙◌}
use Rattle.ast_types.proofs.Cases.{expr_cases}
use Rattle.rhai_ast.specs.Nodes.{is_dot}
use Rattle.rhai_ast.proofs.OtherFaults.{no_chain}
use Rattle.rhai_ast.proofs.faults.shape.+rest.Goals as goal

pub is_rest-returns-in_default : goal.is_rest-returns-in_default
is_rest-returns-in_default t c = c.is_end.ensures ∙ no_chain (is_dot c.args.chain) c.args.is_last (expr_cases c.args.rhs.now) c.in_default.not-Dot c.in_default.not-Index
