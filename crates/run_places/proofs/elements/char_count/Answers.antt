use Rattle.run_places.proofs.Parts.{counted}
use Rattle.run_places.proofs.elements.char_count.Goals as goal

pub returns : goal.returns
returns c = counted _ _ _ c.utf8.text c.chars.ensures.rest c.count.ensures.ran
