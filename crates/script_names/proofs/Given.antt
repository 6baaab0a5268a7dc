-- What an answer is known for.
use Rattle.std.proofs.Common.{◌≡◌, Result, Ok, Err, subst}
use Rattle.std.specs.Prelude.{IfOk, MatchResult}

pub ok_gives : {A E : Type 0} (P : A → Type 0) {r : Result A E} {a : A} → r ≡ Ok a → IfOk r P → P a
ok_gives P is h = subst (λ x. IfOk x P) is h

pub ok_matches : {A E : Type 0} (P : A → Type 0) (Q : E → Type 0) {r : Result A E} {a : A} → r ≡ Ok a → MatchResult r P Q → P a
ok_matches P Q is h = subst (λ x. MatchResult x P Q) is h

pub ok_alike : {T E : Type 0} (r : Result T E) (P Q : T → Type 0) → ((t : T) → P t → Q t) → IfOk r P → IfOk r Q
ok_alike (Ok t) P Q f x = f t x
ok_alike (Err e) P Q f x = tt
