-- Floats as text: the fewest digits that are read as the float.
use Rattle.std.specs.Prelude.{ℕ, zero, suc, ◌+◌, ◌-◌, ◌*◌, ◌/◌, ◌%◌, Bool, false, ◌&&◌, List, [], ◌++◌, length, take, drop, replicate, pos, ◌-ℤ◌, codes, nat_le, nat_lt, ◌==◌, to_bits, if◌then◌else◌}
use Rattle.std.specs.Float.{binary64}
use Rattle.std.specs.Fmt.{decimal, signed_decimal}
use Rattle.fast_float.specs.Rounding.{nearest_to_decimal}

-- the bits of the float that is nearest to d * 10 ^ (e - 400)
unfoldable pub read_at : ℕ → ℕ → ℕ
read_at e d = to_bits binary64 (nearest_to_decimal binary64 false d (pos e -ℤ pos 400))

-- the greatest power of ten, up to this one, that is not read as more than the float with these bits
unfoldable pub power_below : ℕ → ℕ → ℕ
power_below x zero = 0
power_below x (suc e) = if nat_le (read_at (suc e) 1) x then suc e else power_below x e

-- the digits d and one more, up to this one: the greatest that are not read as more
unfoldable pub next : ℕ → ℕ → ℕ → ℕ → ℕ
next x e d zero = d * 10
next x e d (suc c) = if nat_le (read_at e (d * 10 + suc c)) x then d * 10 + suc c else next x e d c

-- digits and their power of ten: one more, and another, until they are read as the float
unfoldable pub until_read : ℕ → ℕ → ℕ → ℕ → ℕ × ℕ
until_read x e d zero = (e, d)
until_read x e d (suc n) = if read_at e d == x then (e, d) else until_read x (e - 1) (next x (e - 1) d 9) n

-- the greatest digits that are read as the float, of the fewest that are
abbrev pub greatest : ℕ → ℕ × ℕ
greatest x = until_read x (power_below x 708) (next x (power_below x 708) 0 9) 16

-- the least of as many digits, at most so many below
unfoldable pub least : ℕ → ℕ → ℕ → ℕ → ℕ
least x e d zero = d
least x e d (suc n) = if read_at e (d - 1) == x then least x e (d - 1) n else d

-- those in the midst, which are nearest to the float; of two the lower
abbrev pub midst : ℕ → ℕ × ℕ → ℕ × ℕ
midst x p = (p.0, (p.1 + least x p.0 p.1 9) / 2)

abbrev pub shortest : ℕ → ℕ × ℕ
shortest x = midst x (greatest x)

-- ---- layout

-- digits with a point behind the first so many
abbrev pub pointed : ℕ → List ℕ → List ℕ
pointed n ds = take n ds ++ codes "." ++ drop n ds

-- digits of which so many stand behind the point
abbrev pub with_fraction : ℕ → List ℕ → List ℕ
with_fraction n ds = if nat_lt n (length ds) then pointed (length ds - n) ds else codes "0." ++ replicate (n - length ds) 48 ++ ds

-- one digit before the point, and the power of ten of it
abbrev pub scientific : ℕ → List ℕ → List ℕ
scientific e ds = (if nat_lt 1 (length ds) then pointed 1 ds else ds) ++ codes "e" ++ signed_decimal (pos (e + length ds) -ℤ pos 401)

abbrev pub plain : ℕ → List ℕ → List ℕ
plain e ds = if nat_lt e 400 then with_fraction (400 - e) ds else ds ++ replicate (e - 400) 48 ++ codes ".0"

-- a float from 10 ^ -7 to 10 ^ 13 is written without a power of ten
abbrev pub is_plain : ℕ → Bool
is_plain x = nat_le (read_at 393 1) x && nat_le x (read_at 413 1)

abbrev pub laid_out : ℕ → ℕ × ℕ → List ℕ
laid_out x p = if is_plain x then plain p.0 (decimal p.1) else scientific p.0 (decimal p.1)

-- without the sign
unfoldable pub size_text : ℕ → List ℕ
size_text x = if x == 0 then codes "0.0" else laid_out x (shortest x)

abbrev pub size : ℕ → ℕ
size x = x % 0x8000000000000000

abbrev pub sign : ℕ → List ℕ
sign x = if nat_le 0x8000000000000000 x then codes "-" else []

-- The text of the float with these bits, which has a point or an `e`. What is infinite, or no number, has no digits.
unfoldable pub float_text : ℕ → List ℕ
float_text x = if nat_lt (size x) 0x7ff0000000000000 then sign x ++ size_text (size x) else codes "f64(" ++ decimal x ++ codes ")"
