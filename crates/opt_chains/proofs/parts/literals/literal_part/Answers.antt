use Rattle.ast_types.proofs.Cases.{expr_cases}
use Rattle.ast_types.specs.Reading.{expr_of}
use Rattle.rhai_ast.specs.Nodes.{is_dot}
use Rattle.opt_chains.proofs.OtherParts.{no_literal_part}
use Rattle.opt_chains.proofs.parts.literals.literal_part.Goals as goal

pub returns-in_default : goal.returns-in_default
returns-in_default c = no_literal_part (is_dot c.args.access) (expr_of c.args.argument.now) (expr_cases c.args.base.now) c.in_default.not-Array c.in_default.not-Map
