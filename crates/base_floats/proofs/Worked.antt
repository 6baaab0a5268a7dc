-- Floats and their texts.
use Rattle.std.proofs.Common.{◌≡◌, codes, refl}
use Rattle.std.specs.Fmt.{digits}
use lib.Ieee.{to_bits, round}
use Rattle.base_floats.specs.Digits.{read_at, power_below, next, until_read, least, size_text, float_text}

one_and_a_half : float_text 0x3ff8000000000000 ≡ codes "1.5"
unfolding float_text size_text read_at power_below next until_read least to_bits round digits
one_and_a_half = refl

hundred : float_text 0x4059000000000000 ≡ codes "100.0"
unfolding float_text size_text read_at power_below next until_read least to_bits round digits
hundred = refl

-- of 17 digits
sum : float_text 0x3fd3333333333334 ≡ codes "0.30000000000000004"
unfolding float_text size_text read_at power_below next until_read least to_bits round digits
sum = refl

less : float_text 0xbfe0000000000000 ≡ codes "-0.5"
unfolding float_text size_text read_at power_below next until_read least to_bits round digits
less = refl

tenth_of_a_million : float_text 0x3e7ad7f29abcaf48 ≡ codes "0.0000001"
unfolding float_text size_text read_at power_below next until_read least to_bits round digits
tenth_of_a_million = refl

smaller : float_text 0x3e45798ee2308c3a ≡ codes "1e-8"
unfolding float_text size_text read_at power_below next until_read least to_bits round digits
smaller = refl

greater : float_text 0x4403ffa734915124 ≡ codes "4.6113736e19"
unfolding float_text size_text read_at power_below next until_read least to_bits round digits
greater = refl

-- the least of all, which any digit from 3 to 7 is read as
least_of_all : float_text 1 ≡ codes "5e-324"
unfolding float_text size_text read_at power_below next until_read least to_bits round digits
least_of_all = refl

greatest_of_all : float_text 0x7fefffffffffffff ≡ codes "1.7976931348623157e308"
unfolding float_text size_text read_at power_below next until_read least to_bits round digits
greatest_of_all = refl

zero_below : float_text 0x8000000000000000 ≡ codes "-0.0"
unfolding float_text size_text read_at power_below next until_read least to_bits round digits
zero_below = refl

infinite : float_text 0x7ff0000000000000 ≡ codes "f64(9218868437227405312)"
unfolding float_text size_text read_at power_below next until_read least to_bits round digits
infinite = refl
