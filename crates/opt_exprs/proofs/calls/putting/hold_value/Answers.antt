use Rattle.std.proofs.Common.{ap, ◌∙◌}
use Rattle.ast_types.specs.Reading.{expr_of}
use Rattle.opt_exprs.proofs.calls.putting.hold_value.Goals as goal

pub returns : goal.returns
returns c = record { fired = c.note_fired.ensures.dirty; known = c.note_fired.ensures.known; constant = ap expr_of c.put_expr.ensures ∙ c.in_ok-constant.ensures }
