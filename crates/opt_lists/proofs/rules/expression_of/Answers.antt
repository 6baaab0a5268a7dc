use Rattle.std.proofs.Common.{◌∙◌}
use Rattle.ast_types.proofs.Cases.{stmt_cases}
use Rattle.opt_lists.proofs.Others.{no_return_of_value}
use Rattle.opt_lists.proofs.Sweeping.{no}
use Rattle.opt_lists.proofs.rules.expression_of.Goals as goal

pub unreachable-requires-in_default : goal.unreachable-requires-in_default
unreachable-requires-in_default c = no (no_return_of_value (stmt_cases c.args.statement) c.in_default.not-Return ∙ c.requires)
