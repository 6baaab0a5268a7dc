use Rattle.std.proofs.Common.{refl, ap}
use Rattle.ast_types.specs.Reading.{expr_of}
use Rattle.opt_base.proofs.Stepping.{expr_put, expr_rewrite_as}
use Rattle.opt_rules.proofs.Shapes.{braces_stay}
use Rattle.opt_rules.proofs.expressions.step_braces.Goals as goal

pub returns-in-Some : goal.returns-in-Some
returns-in-Some c = λ r. expr_put c.note_fired.ensures.dirty c.note_fired.ensures.known (expr_rewrite_as refl (ap expr_of c.put_expr.ensures) (rw c.in-Some.is at c.braces_become.ensures))

pub returns-in-None : goal.returns-in-None
returns-in-None c = braces_stay c.requires (rw c.in-None.is at c.braces_become.ensures)
