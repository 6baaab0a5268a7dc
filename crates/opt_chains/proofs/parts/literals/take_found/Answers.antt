use Rattle.std.proofs.Common.{sym, ◌∙◌}
use Rattle.ast_types.specs.Reading.{expr_of-Unit}
use Rattle.ast_types.proofs.Cases.{expr_cases}
use Rattle.opt_chains.proofs.OtherParts.{no_found}
use Rattle.opt_chains.proofs.parts.literals.take_found.Goals as goal

pub returns-in_default : goal.returns-in_default
returns-in_default c = expr_of-Unit _ ∙ sym (no_found c.args.found (expr_cases c.args.base.now) c.in_default.not-Array c.in_default.not-Map)
