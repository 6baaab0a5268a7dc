-- Floats, by their bits, beside integers.
use Rattle.std.specs.Prelude.{ℕ, Bool, ◌&&◌, ℤ, from_bits}
use Rattle.std.specs.Float.{Float, binary64}
use Rattle.std.specs.Float.Ieee

-- the float of these bits
abbrev pub float_of : ℕ → Float
float_of x = from_bits binary64 x

-- the float that is nearest to an integer
abbrev pub as_float : ℤ → Float
as_float n = Ieee.of_int binary64 n

-- the float is no less than the one and no greater than the other
abbrev pub between : ℤ → ℤ → Float → Bool
between a b x = Ieee.le (as_float a) x && Ieee.le x (as_float b)
