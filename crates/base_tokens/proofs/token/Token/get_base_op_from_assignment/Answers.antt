use Rattle.std.proofs.Common.{rules}
use Rattle.base_tokens.proofs.token.Token.get_base_op_from_assignment.Goals as goal

pub returns-in-PlusAssign : goal.returns-in-PlusAssign
returns-in-PlusAssign c = search rules

pub returns-in-MinusAssign : goal.returns-in-MinusAssign
returns-in-MinusAssign c = search rules

pub returns-in-MultiplyAssign : goal.returns-in-MultiplyAssign
returns-in-MultiplyAssign c = search rules

pub returns-in-DivideAssign : goal.returns-in-DivideAssign
returns-in-DivideAssign c = search rules

pub returns-in-ModuloAssign : goal.returns-in-ModuloAssign
returns-in-ModuloAssign c = search rules

pub returns-in-PowerOfAssign : goal.returns-in-PowerOfAssign
returns-in-PowerOfAssign c = search rules

pub returns-in-LeftShiftAssign : goal.returns-in-LeftShiftAssign
returns-in-LeftShiftAssign c = search rules

pub returns-in-RightShiftAssign : goal.returns-in-RightShiftAssign
returns-in-RightShiftAssign c = search rules

pub returns-in-AndAssign : goal.returns-in-AndAssign
returns-in-AndAssign c = search rules

pub returns-in-OrAssign : goal.returns-in-OrAssign
returns-in-OrAssign c = search rules

pub returns-in-XOrAssign : goal.returns-in-XOrAssign
returns-in-XOrAssign c = search rules

pub returns-in_default : goal.returns-in_default
returns-in_default c = search rules
