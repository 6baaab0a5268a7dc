-- Values in print, in which no text of a script's can end a text, a line or a part.
use Rattle.std.specs.Prelude.{ℕ, Bool, true, false, List, [], ◌∷◌, ◌++◌, ◌/◌, ◌%◌, codes, encode_utf8, if◌then◌else◌, ◌==◌, ◌||◌, ◌&&◌, nat_lt}
use Rattle.std.specs.Fmt.{digit_glyph, signed_decimal}
use Rattle.std.specs.Str.{chars}
use Rattle.rhai_base.specs.Value.{Text, Value, UnitV, BoolV, IntV, FloatV, CharV, TextV, ArrayV, MapV, PointerV, RangeV, RangeInclusiveV, Values, no_values, item, Fields, no_fields, field, float_text}

-- a letter below 256 by the two digits of its code
abbrev pub coded : ℕ → Text
coded c = codes "\\u00" ++ digit_glyph false (c / 16) ∷ digit_glyph false (c % 16) ∷ []

-- what controls a screen
abbrev pub is_control : ℕ → Bool
is_control c = nat_lt c 32 || (nat_lt 126 c && nat_lt c 160)

-- a letter of a text: quotes, backslashes, line ends and tabs stand behind a backslash
abbrev pub escape : ℕ → Text
escape c =
    if c == 34 then codes "\\\""
    else if c == 92 then codes "\\\\"
    else if c == 10 then codes "\\n"
    else if c == 13 then codes "\\r"
    else if c == 9 then codes "\\t"
    else if is_control c then coded c
    else encode_utf8 c

abbrev pub escaped : List ℕ → Text
escaped [] = []
escaped (c ∷ cs) = escape c ++ escaped cs

-- a text as a literal
abbrev pub quoted : Text → Text
quoted t = codes "\"" ++ escaped (chars t) ++ codes "\""

unfoldable mutual
  pub literal : Value → Text
  literal UnitV = codes "()"
  literal (BoolV true) = codes "true"
  literal (BoolV false) = codes "false"
  literal (IntV n) = signed_decimal n
  literal (FloatV bits) = float_text bits
  literal (CharV c) = codes "'" ++ escape c ++ codes "'"
  literal (TextV t) = quoted t
  literal (ArrayV vs) = codes "[" ++ literals [] vs ++ codes "]"
  literal (MapV fs) = codes "#{" ++ members [] fs ++ codes "}"
  literal (PointerV f vs) = codes "Fn(" ++ quoted f ++ literals (codes ", ") vs ++ codes ")"
  literal (RangeV a b) = signed_decimal a ++ codes ".." ++ signed_decimal b
  literal (RangeInclusiveV a b) = signed_decimal a ++ codes "..=" ++ signed_decimal b

  -- values with commas between them, and that text before the first
  pub literals : Text → Values → Text
  literals before no_values = []
  literals before (item v vs) = before ++ literal v ++ literals (codes ", ") vs

  pub members : Text → Fields → Text
  members before no_fields = []
  members before (field k v fs) = before ++ quoted k ++ codes ": " ++ literal v ++ members (codes ", ") fs

-- a member behind that text
abbrev pub member_text : Text → Text → Value → Text
member_text before k v = before ++ quoted k ++ codes ": " ++ literal v
