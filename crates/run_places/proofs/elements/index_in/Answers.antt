use Rattle.std.proofs.Common.{rules}
use Rattle.run_places.proofs.Parts.{parts}
use Rattle.run_places.proofs.elements.index_in.Goals as goal

pub returns-then-index-lt0 : goal.returns-then-index-lt0
returns-then-index-lt0 c = search (rules, parts)

pub returns-then-place-count : goal.returns-then-place-count
returns-then-place-count c = search (rules, parts)

pub returns-else-place-count : goal.returns-else-place-count
returns-else-place-count c = search (rules, parts)
