-- What `parse_int` reads.
use Rattle.std.specs.Prelude.{ℤ, Bool, ◌&&◌, length, nat_lt, Option, Some, None, if◌then◌else◌}
use Rattle.std.specs.Str.{all_ascii_digits, trim}
use Rattle.std.specs.Str.Parse.{without_leading_sign, signed_digits_value}
use Rattle.rhai_base.specs.Value.{Text}
use Rattle.rhai_base.specs.Operators.{fits}

-- one digit or more, behind a sign or none
abbrev pub is_numeral : Text → Bool
is_numeral t = nat_lt 0 (length (without_leading_sign t)) && all_ascii_digits (without_leading_sign t)

-- the number of 64 bits that a text is
abbrev pub number_in : Text → Option ℤ
number_in t = if is_numeral t && fits (signed_digits_value 10 t) then Some (signed_digits_value 10 t) else None

-- the same between white space
abbrev pub number_read : Text → Option ℤ
number_read t = number_in (trim t)
