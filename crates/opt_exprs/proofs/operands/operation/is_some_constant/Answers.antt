use Rattle.std.proofs.Common.{not, ◌&&◌, sym, ap, ◌∙◌}
use Rattle.theory_meaning.specs.Constants.{constant_value}
use Rattle.ast_types.specs.Reading.{expr_of}
use Rattle.opt_exprs.specs.Operands.{is_unit_value}
use Rattle.opt_exprs.proofs.OperandKinds.{some_value}
use Rattle.opt_exprs.proofs.operands.operation.is_some_constant.Goals as goal

pub returns-then-is_constant : goal.returns-then-is_constant
returns-then-is_constant c =
    let o = constant_value (expr_of c.args.operand.now) in
    ap not c.is_constant_unit.ensures ∙ ap (λ b. b && not (is_unit_value o)) (sym (sym c.is_constant.ensures ∙ c.if-is_constant.true)) ∙ some_value o

pub returns-else-is_constant : goal.returns-else-is_constant
returns-else-is_constant c =
    let o = constant_value (expr_of c.args.operand.now) in
    c.if-is_constant.false ∙ ap (λ b. b && not (is_unit_value o)) (sym (sym c.is_constant.ensures ∙ c.if-is_constant.false)) ∙ some_value o
