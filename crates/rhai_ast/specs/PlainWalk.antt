-- The walk that asks whether all nodes are plain.
use Rattle.std.specs.Prelude.{Bool}
use Rattle.theory_meaning.specs.Plain.{all_true, is_plain_node}
use Rattle.theory_meaning.specs.Walk.{Walk}

abbrev pub plain_walk : Walk Bool
plain_walk = all_true is_plain_node
