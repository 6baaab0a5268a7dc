use Rattle.std.proofs.Common.{refl, sym, ap, ◌∙◌}
use Rattle.ast_types.specs.Reading.{expr_of}
use Rattle.opt_base.specs.Places.{place_of}
use Rattle.opt_base.proofs.Stepping.{expr_rewrite_as}
use Rattle.opt_rules.proofs.Shapes.{expression_becomes}
use Rattle.opt_rules.proofs.expressions.braces_of_expression.Goals as goal

pub returns-then-may_stand : goal.returns-then-may_stand
returns-then-may_stand c = expr_rewrite_as refl (ap expr_of c.take.ensures.taken) (expression_becomes (place_of c.args.place) (expr_of c.args.expr.now) (sym c.may_stand.ensures ∙ c.if-may_stand.true))
