use Rattle.std.proofs.Common.{◌≡◌, true, false, ◌∙◌}
use Rattle.ast_types.proofs.Cases.{expr_cases}
use Rattle.opt_exprs.proofs.OperandKinds.{no_operation}
use Rattle.opt_exprs.proofs.operands.nodes.node_outcome.Goals as goal

pub returns-in_default : goal.returns-in_default
returns-in_default c = absurd (let h : false ≡ true = no_operation (expr_cases c.args.expr.now) c.in_default.not-And c.in_default.not-Or c.in_default.not-Coalesce ∙ c.requires in cc)
