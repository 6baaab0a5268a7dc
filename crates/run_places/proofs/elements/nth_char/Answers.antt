use Rattle.run_places.proofs.Parts.{nth_is}
use Rattle.run_places.proofs.elements.nth_char.Goals as goal

pub returns : goal.returns
returns c = nth_is _ _ _ _ _ c.utf8.text c.chars.ensures.rest c.nth.ensures.ran
