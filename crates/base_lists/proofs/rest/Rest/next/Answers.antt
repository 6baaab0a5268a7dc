use Rattle.std.proofs.Common.{rules}
use Rattle.base_lists.proofs.rest.Rest.next.Goals as goal

pub returns : goal.returns
returns g c = search rules
