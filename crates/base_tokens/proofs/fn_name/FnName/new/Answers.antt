use Rattle.std.proofs.Common.{rules}
use Rattle.base_tokens.proofs.fn_name.FnName.new.Goals as goal

pub returns-then-is_valid_name : goal.returns-then-is_valid_name
returns-then-is_valid_name c = search rules
