use Rattle.std.proofs.Common.{◌≡◌}
use Rattle.ast_nodes.specs.Placed.{name_placed}
use Rattle.ast_nodes.proofs.Changes.{first_changed}
use Rattle.ast_nodes.proofs.place.place_each.Given as goal

abbrev pub invariant-loop-name : goal.invariant-loop-name
invariant-loop-name l = l.names ≡ first_changed (name_placed l.pos) l.initial.names l.name-index
