use Rattle.std.proofs.Common.{ap, ◌∙◌}
use Rattle.theory_meaning.specs.Constants.{literal_value}
use Rattle.ast_types.specs.Reading.{expr_of}
use Rattle.opt_base.proofs.putting.put_constant.Goals as goal

pub returns : goal.returns
returns c = record {
  fired = c.note_fired.ensures.dirty;
  known = c.note_fired.ensures.known;
  constant = ap expr_of c.put_expr.ensures ∙ c.in_ok-constant.ensures.value;
  literal = ap literal_value (ap expr_of c.put_expr.ensures) ∙ c.in_ok-constant.ensures.round_trip;
}
