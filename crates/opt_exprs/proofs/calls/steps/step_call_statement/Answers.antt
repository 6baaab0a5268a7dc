use Rattle.std.proofs.Common.{sym, ap, ◌∙◌}
use Rattle.std.specs.Option.{option_map}
use Rattle.rhai_base.specs.Reading.{value_of}
use Rattle.opt_exprs.proofs.Folds.{value_put_as_statement, call_stays_as_statement}
use Rattle.opt_exprs.proofs.calls.steps.step_call_statement.Goals as goal

pub returns-in-Some : goal.returns-in-Some
returns-in-Some c = λ w. value_put_as_statement _ (sym (ap (option_map value_of) c.in-Some.is) ∙ c.in_ok-value.ensures) c.in_ok-call_statement_folds.ensures

pub returns : goal.returns
returns c = λ w. call_stays_as_statement _ c.requires (sym (ap (option_map value_of) c.in_default.is) ∙ c.in_ok-value.ensures)
