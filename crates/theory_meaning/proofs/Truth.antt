-- Laws of truth values.
use Rattle.std.proofs.Common.{◌≡◌, Bool, true, false, ◌&&◌, refl}

pub and_assoc : (a b c : Bool) → ((a && b) && c) ≡ (a && (b && c))
and_assoc true b c = refl
and_assoc false b c = refl
