use Rattle.ast_types.proofs.Cases.{expr_cases}
use Rattle.opt_chains.proofs.OtherParts.{no_integer_constant}
use Rattle.opt_chains.proofs.parts.literals.integer_of.Goals as goal

pub returns-in_default : goal.returns-in_default
returns-in_default c = no_integer_constant (expr_cases c.args.expr.now) c.in_default.not-IntegerConstant c.in_default.not-DynamicConstant
