use Rattle.std.proofs.Common.{rules}
use Rattle.base_tokens.proofs.token.Token.convert_to_op_assignment.Goals as goal

pub returns-in-PowerOf : goal.returns-in-PowerOf
returns-in-PowerOf c = search rules
