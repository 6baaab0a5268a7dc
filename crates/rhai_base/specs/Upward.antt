-- Integers upward from a first one.
use Rattle.std.specs.Prelude.{ℕ, zero, suc, List, [], ◌∷◌, ℤ, pos, ◌+ℤ◌}

-- as many integers as that, from the first upward
abbrev pub upward : ℤ → ℕ → List ℤ
upward a zero = []
upward a (suc n) = a ∷ upward (a +ℤ pos 1) n
