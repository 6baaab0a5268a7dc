use Rattle.std.proofs.Common.{refl, sym, ◌∙◌}
use Rattle.ast_types.specs.Reading.{expr_of-Unit}
use Rattle.opt_base.specs.Places.{place_of}
use Rattle.opt_base.proofs.Stepping.{expr_rewrite_as}
use Rattle.opt_rules.proofs.Shapes.{empty_becomes}
use Rattle.opt_rules.proofs.expressions.braces_empty.Goals as goal

pub returns-then-may_be_unit : goal.returns-then-may_be_unit
returns-then-may_be_unit c = expr_rewrite_as refl (expr_of-Unit _) (empty_becomes (place_of c.args.place) (sym c.may_be_unit.ensures ∙ c.if-may_be_unit.true))
