-- Values that may be missing, by the tests of code.
use Rattle.std.proofs.Common.{◌≡◌, Bool, true, false, not, Option, Some, None, refl}
use Rattle.std.specs.Option.{is_none, is_some}

pub none_by : {T : Type 0} (o : Option T) (b : Bool) → is_some o ≡ not b → b ≡ is_none o
none_by None true h = refl
none_by None false h = cc
none_by (Some x) true h = cc
none_by (Some x) false h = refl
