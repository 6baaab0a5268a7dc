use Rattle.std.proofs.Common.{ap, ◌∙◌}
use Rattle.ast_types.specs.Reading.{stmt_of}
use Rattle.opt_exprs.proofs.calls.putting.call_statement_folds.Goals as goal

pub returns : goal.returns
returns c = record { fired = c.note_fired.ensures.dirty; known = c.note_fired.ensures.known; constant = ap stmt_of c.put_stmt.ensures ∙ c.in_ok-constant.ensures }
