use Rattle.ast_types.proofs.Cases.{expr_cases}
use Rattle.opt_exprs.proofs.OperandKinds.{no_constant_unit}
use Rattle.opt_exprs.proofs.operands.operation.is_constant_unit.Goals as goal

pub returns-in_default : goal.returns-in_default
returns-in_default c = no_constant_unit (expr_cases c.args.operand.now) c.in_default.not-Unit c.in_default.not-DynamicConstant
