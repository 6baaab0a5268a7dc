use Rattle.std.proofs.Common.{rules, ◌∙◌, ap, length}
use Rattle.run_standard.proofs.Entries.{keys-counted}
use Rattle.run_standard.proofs.maps.entries.Goals as goal

pub returns : goal.returns
returns c = search (rules, ap length c.as_slice.ensures ∙ keys-counted _ _ c.in_ok-keys.ensures)
