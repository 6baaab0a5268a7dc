-- What follows from a call's clause, of its outcome.
use Rattle.std.proofs.Common.{Result, Ok, Err, OnOk}

pub ok_follows : {T E : Type 0} (r : Result T E) (P Q : Type 0) → (P → Q) → OnOk r P → OnOk r Q
ok_follows (Ok t) P Q f x = f x
ok_follows (Err e) P Q f x = tt
