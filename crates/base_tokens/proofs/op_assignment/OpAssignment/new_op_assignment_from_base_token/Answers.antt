use Rattle.std.proofs.Common.{Some, rules, sym, ap, ◌∙◌}
use Rattle.base_tokens.proofs.Applied.{written_base_as}
use Rattle.base_tokens.proofs.op_assignment.OpAssignment.new_op_assignment_from_base_token.Goals as goal

pub returns-clause-as_text : goal.returns-clause-as_text
returns-clause-as_text c =
    written_base_as _ _ c.requires (sym c.convert_to_op_assignment.ensures ∙ c.unwrap.ensures ∙ ap Some (sym c.new_op_assignment_from_token.ensures.made.0))

pub returns-clause-position : goal.returns-clause-position
returns-clause-position c = search rules
