use Rattle.ast_types.specs.Reading.{expr_of}
use Rattle.opt_stmts.proofs.Choosing.{reduces_bare}
use Rattle.opt_stmts.proofs.choice.choice.reduced_if.Goals as goal

pub returns-then-has_no_statements : goal.returns-then-has_no_statements
returns-then-has_no_statements c = reduces_bare c.args.wanted (expr_of c.args.flow.now.expr) _ _ c.if-has_no_statements.ensures c.step_of.ensures (rw c.take.ensures.taken at c.in_ok-made.ensures)
