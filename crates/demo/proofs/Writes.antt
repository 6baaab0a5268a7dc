-- A text that is written part by part.
use Rattle.std.proofs.Common.{◌≡◌, ℕ, ◌+◌, ◌-◌, List, Option, length, take, drop, subst, sym, arith, length-drop, take_all}
use Rattle.std.proofs.Math.Seq.{take-add}
use Rattle.std.proofs.KnownBytes.{Appends-trans}
use Rattle.std.specs.Io.KnownBytes.{Appends}

-- the rest as a slice
pub rest-slice : (bs : List ℕ) (n : ℕ) → take (length bs - n) (drop n bs) ≡ drop n bs
rest-slice bs n =
    let long = length-drop n bs in
    take_all (length bs - n) (drop n bs) (omega (arith, long))

-- so much of it, and then so much of what is left
pub written_more : (a b c : Option (List ℕ)) (bs : List ℕ) (n m : ℕ) → Appends a b (take n bs) → Appends b c (take m (drop n bs)) → Appends a c (take (n + m) bs)
written_more a b c bs n m first then_ = subst (Appends a c) (sym (take-add n m bs)) (Appends-trans a b c (take n bs) (take m (drop n bs)) first then_)
