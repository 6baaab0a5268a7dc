use Rattle.std.proofs.Common.{◌≡◌, map, length}
use Rattle.std.specs.Map.Iter.{deref}
use Rattle.std.specs.Iterator.Adapters.{zip_first, zip_second}
use Rattle.std.specs.Slice.Iter.{iter_rest}
use Rattle.theory_meaning.specs.Engine.{same_texts}
use Rattle.base_engine.proofs.engine_info.are_named.Given as goal

-- what is left decides
abbrev pub invariant-loop-name : goal.invariant-loop-name
invariant-loop-name l =
    let names = iter_rest (zip_first l.name-iterator) in
    let types = iter_rest (zip_second l.name-iterator) in
    record { long : length names ≡ length types; left : same_texts names (map deref types) ≡ same_texts l.names (map deref l.types) }
