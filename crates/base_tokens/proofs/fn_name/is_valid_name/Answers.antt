use Rattle.std.proofs.Common.{rules}
use Rattle.base_tokens.proofs.fn_name.is_valid_name.Goals as goal

pub returns-then-is_identifier : goal.returns-then-is_identifier
returns-then-is_identifier c = search rules

pub returns-else-is_identifier : goal.returns-else-is_identifier
returns-else-is_identifier c = search rules

pub returns-else-not-is_reserved : goal.returns-else-not-is_reserved
returns-else-not-is_reserved c = search rules
