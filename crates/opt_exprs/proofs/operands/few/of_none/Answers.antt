use Rattle.std.proofs.Common.{true, false, refl, sym, ◌∙◌}
use Rattle.ast_types.specs.Reading.{expr_of-BoolConstant, expr_of-Unit}
use Rattle.opt_base.specs.Places.{place_of}
use Rattle.opt_base.proofs.Stepping.{expr_rewrite_as}
use Rattle.opt_exprs.specs.declared.operands.operation.Operation.TheVariants as operation
use Rattle.opt_exprs.proofs.Single.{bool_stands, none}
use Rattle.opt_exprs.proofs.operands.few.of_none.Goals as goal

pub returns-in-And : goal.returns-in-And
returns-in-And c = let p = place_of c.args.place in rw c.in-And.is (expr_rewrite_as refl (expr_of-BoolConstant _ _) (none p operation.And (sym (bool_stands p true))))

pub returns-in-Or : goal.returns-in-Or
returns-in-Or c = let p = place_of c.args.place in rw c.in-Or.is (expr_rewrite_as refl (expr_of-BoolConstant _ _) (none p operation.Or (sym (bool_stands p false))))

pub returns-in-Coalesce : goal.returns-in-Coalesce
returns-in-Coalesce c = let p = place_of c.args.place in rw c.in-Coalesce.is (expr_rewrite_as refl (expr_of-Unit _) (none p operation.Coalesce (sym c.may_be_unit.ensures ∙ c.if-may_be_unit.true)))
