use Rattle.std.proofs.Common.{rules}
use Rattle.base_text.proofs.immutable_string.ImmutableStringHash.hash.Goals as goal

pub returns : goal.returns
returns g c = search rules
