use Rattle.ast_types.specs.Reading.{path_of}
use Rattle.ast_types.proofs.Cases.{expr_cases}
use Rattle.ast_same.proofs.Others.{other_variable}
use Rattle.ast_same.proofs.leaves.is_variable.Goals as goal

pub returns-in_default : goal.returns-in_default
returns-in_default c = other_variable (expr_cases c.args.second.now) c.in_default.not-Variable (path_of c.args.parts.now.2) c.args.parts.now.1
