use Rattle.std.proofs.Common.{rules}
use Rattle.script_queries.proofs.metadata.FnMetadataIterIterator.next.Goals as goal

pub returns-in-Some-clause-steps : goal.returns-in-Some-clause-steps
returns-in-Some-clause-steps c = search rules
