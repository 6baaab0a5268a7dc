use Rattle.std.proofs.Common.{ap, sym}
use Rattle.theory_meaning.specs.Queries.{is_unit}
use Rattle.ast_types.proofs.Cases.{expr_cases}
use Rattle.opt_chains.proofs.OtherParts.{no_found}
use Rattle.opt_chains.proofs.parts.literals.is_unit_part.Goals as goal

pub returns-in_default : goal.returns-in_default
returns-in_default c = ap is_unit (sym (no_found c.args.found (expr_cases c.args.base.now) c.in_default.not-Array c.in_default.not-Map))
