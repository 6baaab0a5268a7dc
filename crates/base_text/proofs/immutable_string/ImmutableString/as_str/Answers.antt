use Rattle.std.proofs.Common.{rules}
use Rattle.base_text.proofs.immutable_string.ImmutableString.as_str.Goals as goal

pub returns : goal.returns
returns c = search rules
