-- What operators answer, over values that are the same but for names.
use Rattle.std.proofs.Common.{ℕ, zero, suc, ℤ, pos, negsuc, Bool, true, false, List}
use Rattle.std.specs.Prelude.{codes, if◌then◌else◌, int_div, int_rem, ◌+ℤ◌, ◌-ℤ◌, ◌*ℤ◌}
use Rattle.rhai_base.specs.Value.{Text, Value, IntV, same_text}
use Rattle.rhai_base.specs.Operators.{Operator, Plus, Minus, Multiply, Divide, Modulo, Power, ShiftLeft, ShiftRight, BitAnd, BitOr, BitXor, EqualTo, NotEqualTo, Less, Greater, LessOrEqual, GreaterOrEqual, UpTo, Through, Not, Negative, Positive, NoEntry, Is, Overflows, fits, checked, quotient, remainder, on_ints, on_bools, on_texts, on_chars, on_different, on_units, on_joined, on_from, on_to, unary, binary, computed}
use Rattle.theory_naming.specs.Naming.{both_empty, both_more, Like, unit_like, bool_like, int_like, float_like, char_like, text_like, array_like, map_like, pointer_like, range_like, inclusive_like, Likes, ComputedLike, no_entry_like, is_like, overflows_like}

module _ (N : Text → Text → Type 0) where
  fitting : (b : Bool) (n : ℤ) → ComputedLike N (if b then Is (IntV n) else Overflows) (if b then Is (IntV n) else Overflows)
  fitting true n = is_like (int_like n)
  fitting false n = overflows_like

  checked_like : (n : ℤ) → ComputedLike N (checked n) (checked n)
  checked_like n = fitting (fits n) n

  quotient_like : (a b : ℤ) → ComputedLike N (quotient a b) (quotient a b)
  quotient_like a (pos zero) = overflows_like
  quotient_like a (pos (suc n)) = checked_like (int_div a (pos (suc n)))
  quotient_like a (negsuc n) = checked_like (int_div a (negsuc n))

  remainder_like : (a b : ℤ) → ComputedLike N (remainder a b) (remainder a b)
  remainder_like a (pos zero) = overflows_like
  remainder_like a (pos (suc n)) = fitting (fits (int_div a (pos (suc n)))) (int_rem a (pos (suc n)))
  remainder_like a (negsuc n) = fitting (fits (int_div a (negsuc n))) (int_rem a (negsuc n))

  ints_like : (op : Operator) (a b : ℤ) → ComputedLike N (on_ints op a b) (on_ints op a b)
  ints_like Plus a b = checked_like (a +ℤ b)
  ints_like Minus a b = checked_like (a -ℤ b)
  ints_like Multiply a b = checked_like (a *ℤ b)
  ints_like Divide a b = quotient_like a b
  ints_like Modulo a b = remainder_like a b
  ints_like Power a b = no_entry_like
  ints_like ShiftLeft a b = no_entry_like
  ints_like ShiftRight a b = no_entry_like
  ints_like BitAnd a b = is_like (int_like _)
  ints_like BitOr a b = is_like (int_like _)
  ints_like BitXor a b = is_like (int_like _)
  ints_like EqualTo a b = is_like (bool_like _)
  ints_like NotEqualTo a b = is_like (bool_like _)
  ints_like Less a b = is_like (bool_like _)
  ints_like Greater a b = is_like (bool_like _)
  ints_like LessOrEqual a b = is_like (bool_like _)
  ints_like GreaterOrEqual a b = is_like (bool_like _)
  ints_like UpTo a b = is_like (range_like _ _)
  ints_like Through a b = is_like (inclusive_like _ _)
  ints_like Not a b = no_entry_like
  ints_like Negative a b = no_entry_like
  ints_like Positive a b = no_entry_like

  bools_like : (op : Operator) (a b : Bool) → ComputedLike N (on_bools op a b) (on_bools op a b)
  bools_like Plus a b = no_entry_like
  bools_like Minus a b = no_entry_like
  bools_like Multiply a b = no_entry_like
  bools_like Divide a b = no_entry_like
  bools_like Modulo a b = no_entry_like
  bools_like Power a b = no_entry_like
  bools_like ShiftLeft a b = no_entry_like
  bools_like ShiftRight a b = no_entry_like
  bools_like BitAnd a b = is_like (bool_like _)
  bools_like BitOr a b = is_like (bool_like _)
  bools_like BitXor a b = is_like (bool_like _)
  bools_like EqualTo a b = is_like (bool_like _)
  bools_like NotEqualTo a b = is_like (bool_like _)
  bools_like Less a b = no_entry_like
  bools_like Greater a b = no_entry_like
  bools_like LessOrEqual a b = no_entry_like
  bools_like GreaterOrEqual a b = no_entry_like
  bools_like UpTo a b = no_entry_like
  bools_like Through a b = no_entry_like
  bools_like Not a b = no_entry_like
  bools_like Negative a b = no_entry_like
  bools_like Positive a b = no_entry_like

  texts_like : (op : Operator) (a b : Text) → ComputedLike N (on_texts op a b) (on_texts op a b)
  texts_like Plus a b = is_like (text_like _)
  texts_like Minus a b = no_entry_like
  texts_like Multiply a b = no_entry_like
  texts_like Divide a b = no_entry_like
  texts_like Modulo a b = no_entry_like
  texts_like Power a b = no_entry_like
  texts_like ShiftLeft a b = no_entry_like
  texts_like ShiftRight a b = no_entry_like
  texts_like BitAnd a b = no_entry_like
  texts_like BitOr a b = no_entry_like
  texts_like BitXor a b = no_entry_like
  texts_like EqualTo a b = is_like (bool_like _)
  texts_like NotEqualTo a b = is_like (bool_like _)
  texts_like Less a b = is_like (bool_like _)
  texts_like Greater a b = is_like (bool_like _)
  texts_like LessOrEqual a b = is_like (bool_like _)
  texts_like GreaterOrEqual a b = is_like (bool_like _)
  texts_like UpTo a b = no_entry_like
  texts_like Through a b = no_entry_like
  texts_like Not a b = no_entry_like
  texts_like Negative a b = no_entry_like
  texts_like Positive a b = no_entry_like

  chars_like : (op : Operator) (a b : ℕ) → ComputedLike N (on_chars op a b) (on_chars op a b)
  unfolding on_chars
  chars_like Plus a b = is_like (text_like _)
  chars_like Minus a b = no_entry_like
  chars_like Multiply a b = no_entry_like
  chars_like Divide a b = no_entry_like
  chars_like Modulo a b = no_entry_like
  chars_like Power a b = no_entry_like
  chars_like ShiftLeft a b = no_entry_like
  chars_like ShiftRight a b = no_entry_like
  chars_like BitAnd a b = no_entry_like
  chars_like BitOr a b = no_entry_like
  chars_like BitXor a b = no_entry_like
  chars_like EqualTo a b = is_like (bool_like _)
  chars_like NotEqualTo a b = is_like (bool_like _)
  chars_like Less a b = is_like (bool_like _)
  chars_like Greater a b = is_like (bool_like _)
  chars_like LessOrEqual a b = is_like (bool_like _)
  chars_like GreaterOrEqual a b = is_like (bool_like _)
  chars_like UpTo a b = no_entry_like
  chars_like Through a b = no_entry_like
  chars_like Not a b = no_entry_like
  chars_like Negative a b = no_entry_like
  chars_like Positive a b = no_entry_like

  different_like : (op : Operator) → ComputedLike N (on_different op) (on_different op)
  different_like Plus = no_entry_like
  different_like Minus = no_entry_like
  different_like Multiply = no_entry_like
  different_like Divide = no_entry_like
  different_like Modulo = no_entry_like
  different_like Power = no_entry_like
  different_like ShiftLeft = no_entry_like
  different_like ShiftRight = no_entry_like
  different_like BitAnd = no_entry_like
  different_like BitOr = no_entry_like
  different_like BitXor = no_entry_like
  different_like EqualTo = is_like (bool_like _)
  different_like NotEqualTo = is_like (bool_like _)
  different_like Less = no_entry_like
  different_like Greater = no_entry_like
  different_like LessOrEqual = no_entry_like
  different_like GreaterOrEqual = no_entry_like
  different_like UpTo = no_entry_like
  different_like Through = no_entry_like
  different_like Not = no_entry_like
  different_like Negative = no_entry_like
  different_like Positive = no_entry_like

  units_like : (op : Operator) → ComputedLike N (on_units op) (on_units op)
  units_like Plus = no_entry_like
  units_like Minus = no_entry_like
  units_like Multiply = no_entry_like
  units_like Divide = no_entry_like
  units_like Modulo = no_entry_like
  units_like Power = no_entry_like
  units_like ShiftLeft = no_entry_like
  units_like ShiftRight = no_entry_like
  units_like BitAnd = no_entry_like
  units_like BitOr = no_entry_like
  units_like BitXor = no_entry_like
  units_like EqualTo = is_like (bool_like _)
  units_like NotEqualTo = is_like (bool_like _)
  units_like Less = no_entry_like
  units_like Greater = no_entry_like
  units_like LessOrEqual = no_entry_like
  units_like GreaterOrEqual = no_entry_like
  units_like UpTo = no_entry_like
  units_like Through = no_entry_like
  units_like Not = no_entry_like
  units_like Negative = no_entry_like
  units_like Positive = no_entry_like

  joined_like : (op : Operator) (t : Text) → ComputedLike N (on_joined op t) (on_joined op t)
  joined_like Plus t = is_like (text_like _)
  joined_like Minus t = no_entry_like
  joined_like Multiply t = no_entry_like
  joined_like Divide t = no_entry_like
  joined_like Modulo t = no_entry_like
  joined_like Power t = no_entry_like
  joined_like ShiftLeft t = no_entry_like
  joined_like ShiftRight t = no_entry_like
  joined_like BitAnd t = no_entry_like
  joined_like BitOr t = no_entry_like
  joined_like BitXor t = no_entry_like
  joined_like EqualTo t = is_like (bool_like _)
  joined_like NotEqualTo t = is_like (bool_like _)
  joined_like Less t = no_entry_like
  joined_like Greater t = no_entry_like
  joined_like LessOrEqual t = no_entry_like
  joined_like GreaterOrEqual t = no_entry_like
  joined_like UpTo t = no_entry_like
  joined_like Through t = no_entry_like
  joined_like Not t = no_entry_like
  joined_like Negative t = no_entry_like
  joined_like Positive t = no_entry_like

  from_like : (op : Operator) (a : ℤ) → ComputedLike N (on_from op a) (on_from op a)
  from_like Plus a = no_entry_like
  from_like Minus a = no_entry_like
  from_like Multiply a = no_entry_like
  from_like Divide a = no_entry_like
  from_like Modulo a = no_entry_like
  from_like Power a = no_entry_like
  from_like ShiftLeft a = no_entry_like
  from_like ShiftRight a = no_entry_like
  from_like BitAnd a = no_entry_like
  from_like BitOr a = no_entry_like
  from_like BitXor a = no_entry_like
  from_like EqualTo a = is_like (bool_like _)
  from_like NotEqualTo a = is_like (bool_like _)
  from_like Less a = no_entry_like
  from_like Greater a = no_entry_like
  from_like LessOrEqual a = no_entry_like
  from_like GreaterOrEqual a = no_entry_like
  from_like UpTo a = is_like (range_like _ _)
  from_like Through a = is_like (inclusive_like _ _)
  from_like Not a = no_entry_like
  from_like Negative a = no_entry_like
  from_like Positive a = no_entry_like

  to_like : (op : Operator) (a : ℤ) → ComputedLike N (on_to op a) (on_to op a)
  to_like Plus a = no_entry_like
  to_like Minus a = no_entry_like
  to_like Multiply a = no_entry_like
  to_like Divide a = no_entry_like
  to_like Modulo a = no_entry_like
  to_like Power a = no_entry_like
  to_like ShiftLeft a = no_entry_like
  to_like ShiftRight a = no_entry_like
  to_like BitAnd a = no_entry_like
  to_like BitOr a = no_entry_like
  to_like BitXor a = no_entry_like
  to_like EqualTo a = is_like (bool_like _)
  to_like NotEqualTo a = is_like (bool_like _)
  to_like Less a = no_entry_like
  to_like Greater a = no_entry_like
  to_like LessOrEqual a = no_entry_like
  to_like GreaterOrEqual a = no_entry_like
  to_like UpTo a = is_like (range_like _ _)
  to_like Through a = is_like (inclusive_like _ _)
  to_like Not a = no_entry_like
  to_like Negative a = no_entry_like
  to_like Positive a = no_entry_like

  by_type : (b : Bool) (op : Operator) → ComputedLike N (if b then NoEntry else on_different op) (if b then NoEntry else on_different op)
  by_type true op = no_entry_like
  by_type false op = different_like op

  unary_like : (op : Operator) {v v' : Value} → Like N v v' → ComputedLike N (unary op v) (unary op v')
  unary_like Plus h = no_entry_like
  unary_like Minus h = no_entry_like
  unary_like Multiply h = no_entry_like
  unary_like Divide h = no_entry_like
  unary_like Modulo h = no_entry_like
  unary_like Power h = no_entry_like
  unary_like ShiftLeft h = no_entry_like
  unary_like ShiftRight h = no_entry_like
  unary_like BitAnd h = no_entry_like
  unary_like BitOr h = no_entry_like
  unary_like BitXor h = no_entry_like
  unary_like EqualTo h = no_entry_like
  unary_like NotEqualTo h = no_entry_like
  unary_like Less h = no_entry_like
  unary_like Greater h = no_entry_like
  unary_like LessOrEqual h = no_entry_like
  unary_like GreaterOrEqual h = no_entry_like
  unary_like UpTo h = no_entry_like
  unary_like Through h = no_entry_like
  unary_like Negative h = no_entry_like
  unary_like Positive h = no_entry_like
  unary_like Not unit_like = no_entry_like
  unary_like Not (bool_like a) = is_like (bool_like _)
  unary_like Not (int_like a) = no_entry_like
  unary_like Not (float_like a) = no_entry_like
  unary_like Not (char_like a) = no_entry_like
  unary_like Not (text_like a) = no_entry_like
  unary_like Not (array_like a) = no_entry_like
  unary_like Not (map_like a) = no_entry_like
  unary_like Not (pointer_like n a) = no_entry_like
  unary_like Not (range_like a x) = no_entry_like
  unary_like Not (inclusive_like a x) = no_entry_like

  binary_like : (op : Operator) {v v' x x' : Value} → Like N v v' → Like N x x' → ComputedLike N (binary op v x) (binary op v' x')
  unfolding binary
  binary_like op unit_like unit_like = units_like op
  binary_like op unit_like (bool_like b) = by_type (same_text (codes "()") (codes "bool")) op
  binary_like op unit_like (int_like b) = to_like op b
  binary_like op unit_like (float_like b) = no_entry_like
  binary_like op unit_like (char_like b) = by_type (same_text (codes "()") (codes "char")) op
  binary_like op unit_like (text_like b) = by_type (same_text (codes "()") (codes "string")) op
  binary_like op unit_like (array_like b) = by_type (same_text (codes "()") (codes "array")) op
  binary_like op unit_like (map_like b) = by_type (same_text (codes "()") (codes "map")) op
  binary_like op unit_like (pointer_like m b) = by_type (same_text (codes "()") (codes "Fn")) op
  binary_like op unit_like (range_like b y) = by_type (same_text (codes "()") (codes "range")) op
  binary_like op unit_like (inclusive_like b y) = by_type (same_text (codes "()") (codes "range=")) op
  binary_like op (bool_like a) unit_like = by_type (same_text (codes "bool") (codes "()")) op
  binary_like op (bool_like a) (bool_like b) = bools_like op a b
  binary_like op (bool_like a) (int_like b) = by_type (same_text (codes "bool") (codes "i64")) op
  binary_like op (bool_like a) (float_like b) = no_entry_like
  binary_like op (bool_like a) (char_like b) = by_type (same_text (codes "bool") (codes "char")) op
  binary_like op (bool_like a) (text_like b) = by_type (same_text (codes "bool") (codes "string")) op
  binary_like op (bool_like a) (array_like b) = by_type (same_text (codes "bool") (codes "array")) op
  binary_like op (bool_like a) (map_like b) = by_type (same_text (codes "bool") (codes "map")) op
  binary_like op (bool_like a) (pointer_like m b) = by_type (same_text (codes "bool") (codes "Fn")) op
  binary_like op (bool_like a) (range_like b y) = by_type (same_text (codes "bool") (codes "range")) op
  binary_like op (bool_like a) (inclusive_like b y) = by_type (same_text (codes "bool") (codes "range=")) op
  binary_like op (int_like a) unit_like = from_like op a
  binary_like op (int_like a) (bool_like b) = by_type (same_text (codes "i64") (codes "bool")) op
  binary_like op (int_like a) (int_like b) = ints_like op a b
  binary_like op (int_like a) (float_like b) = no_entry_like
  binary_like op (int_like a) (char_like b) = by_type (same_text (codes "i64") (codes "char")) op
  binary_like op (int_like a) (text_like b) = by_type (same_text (codes "i64") (codes "string")) op
  binary_like op (int_like a) (array_like b) = by_type (same_text (codes "i64") (codes "array")) op
  binary_like op (int_like a) (map_like b) = by_type (same_text (codes "i64") (codes "map")) op
  binary_like op (int_like a) (pointer_like m b) = by_type (same_text (codes "i64") (codes "Fn")) op
  binary_like op (int_like a) (range_like b y) = by_type (same_text (codes "i64") (codes "range")) op
  binary_like op (int_like a) (inclusive_like b y) = by_type (same_text (codes "i64") (codes "range=")) op
  binary_like op (float_like a) h = no_entry_like
  binary_like op (char_like a) unit_like = by_type (same_text (codes "char") (codes "()")) op
  binary_like op (char_like a) (bool_like b) = by_type (same_text (codes "char") (codes "bool")) op
  binary_like op (char_like a) (int_like b) = by_type (same_text (codes "char") (codes "i64")) op
  binary_like op (char_like a) (char_like b) = chars_like op a b
  binary_like op (char_like a) (float_like b) = no_entry_like
  binary_like op (char_like a) (text_like b) = joined_like op _
  binary_like op (char_like a) (array_like b) = by_type (same_text (codes "char") (codes "array")) op
  binary_like op (char_like a) (map_like b) = by_type (same_text (codes "char") (codes "map")) op
  binary_like op (char_like a) (pointer_like m b) = by_type (same_text (codes "char") (codes "Fn")) op
  binary_like op (char_like a) (range_like b y) = by_type (same_text (codes "char") (codes "range")) op
  binary_like op (char_like a) (inclusive_like b y) = by_type (same_text (codes "char") (codes "range=")) op
  binary_like op (text_like a) unit_like = by_type (same_text (codes "string") (codes "()")) op
  binary_like op (text_like a) (bool_like b) = by_type (same_text (codes "string") (codes "bool")) op
  binary_like op (text_like a) (int_like b) = by_type (same_text (codes "string") (codes "i64")) op
  binary_like op (text_like a) (float_like b) = no_entry_like
  binary_like op (text_like a) (char_like b) = joined_like op _
  binary_like op (text_like a) (text_like b) = texts_like op a b
  binary_like op (text_like a) (array_like b) = by_type (same_text (codes "string") (codes "array")) op
  binary_like op (text_like a) (map_like b) = by_type (same_text (codes "string") (codes "map")) op
  binary_like op (text_like a) (pointer_like m b) = by_type (same_text (codes "string") (codes "Fn")) op
  binary_like op (text_like a) (range_like b y) = by_type (same_text (codes "string") (codes "range")) op
  binary_like op (text_like a) (inclusive_like b y) = by_type (same_text (codes "string") (codes "range=")) op
  binary_like op (array_like a) unit_like = by_type (same_text (codes "array") (codes "()")) op
  binary_like op (array_like a) (bool_like b) = by_type (same_text (codes "array") (codes "bool")) op
  binary_like op (array_like a) (int_like b) = by_type (same_text (codes "array") (codes "i64")) op
  binary_like op (array_like a) (float_like b) = no_entry_like
  binary_like op (array_like a) (char_like b) = by_type (same_text (codes "array") (codes "char")) op
  binary_like op (array_like a) (text_like b) = by_type (same_text (codes "array") (codes "string")) op
  binary_like op (array_like a) (array_like b) = by_type (same_text (codes "array") (codes "array")) op
  binary_like op (array_like a) (map_like b) = by_type (same_text (codes "array") (codes "map")) op
  binary_like op (array_like a) (pointer_like m b) = by_type (same_text (codes "array") (codes "Fn")) op
  binary_like op (array_like a) (range_like b y) = by_type (same_text (codes "array") (codes "range")) op
  binary_like op (array_like a) (inclusive_like b y) = by_type (same_text (codes "array") (codes "range=")) op
  binary_like op (map_like a) unit_like = by_type (same_text (codes "map") (codes "()")) op
  binary_like op (map_like a) (bool_like b) = by_type (same_text (codes "map") (codes "bool")) op
  binary_like op (map_like a) (int_like b) = by_type (same_text (codes "map") (codes "i64")) op
  binary_like op (map_like a) (float_like b) = no_entry_like
  binary_like op (map_like a) (char_like b) = by_type (same_text (codes "map") (codes "char")) op
  binary_like op (map_like a) (text_like b) = by_type (same_text (codes "map") (codes "string")) op
  binary_like op (map_like a) (array_like b) = by_type (same_text (codes "map") (codes "array")) op
  binary_like op (map_like a) (map_like b) = by_type (same_text (codes "map") (codes "map")) op
  binary_like op (map_like a) (pointer_like m b) = by_type (same_text (codes "map") (codes "Fn")) op
  binary_like op (map_like a) (range_like b y) = by_type (same_text (codes "map") (codes "range")) op
  binary_like op (map_like a) (inclusive_like b y) = by_type (same_text (codes "map") (codes "range=")) op
  binary_like op (pointer_like n a) unit_like = by_type (same_text (codes "Fn") (codes "()")) op
  binary_like op (pointer_like n a) (bool_like b) = by_type (same_text (codes "Fn") (codes "bool")) op
  binary_like op (pointer_like n a) (int_like b) = by_type (same_text (codes "Fn") (codes "i64")) op
  binary_like op (pointer_like n a) (float_like b) = no_entry_like
  binary_like op (pointer_like n a) (char_like b) = by_type (same_text (codes "Fn") (codes "char")) op
  binary_like op (pointer_like n a) (text_like b) = by_type (same_text (codes "Fn") (codes "string")) op
  binary_like op (pointer_like n a) (array_like b) = by_type (same_text (codes "Fn") (codes "array")) op
  binary_like op (pointer_like n a) (map_like b) = by_type (same_text (codes "Fn") (codes "map")) op
  binary_like op (pointer_like n a) (pointer_like m b) = by_type (same_text (codes "Fn") (codes "Fn")) op
  binary_like op (pointer_like n a) (range_like b y) = by_type (same_text (codes "Fn") (codes "range")) op
  binary_like op (pointer_like n a) (inclusive_like b y) = by_type (same_text (codes "Fn") (codes "range=")) op
  binary_like op (range_like a x) unit_like = by_type (same_text (codes "range") (codes "()")) op
  binary_like op (range_like a x) (bool_like b) = by_type (same_text (codes "range") (codes "bool")) op
  binary_like op (range_like a x) (int_like b) = by_type (same_text (codes "range") (codes "i64")) op
  binary_like op (range_like a x) (float_like b) = no_entry_like
  binary_like op (range_like a x) (char_like b) = by_type (same_text (codes "range") (codes "char")) op
  binary_like op (range_like a x) (text_like b) = by_type (same_text (codes "range") (codes "string")) op
  binary_like op (range_like a x) (array_like b) = by_type (same_text (codes "range") (codes "array")) op
  binary_like op (range_like a x) (map_like b) = by_type (same_text (codes "range") (codes "map")) op
  binary_like op (range_like a x) (pointer_like m b) = by_type (same_text (codes "range") (codes "Fn")) op
  binary_like op (range_like a x) (range_like b y) = by_type (same_text (codes "range") (codes "range")) op
  binary_like op (range_like a x) (inclusive_like b y) = by_type (same_text (codes "range") (codes "range=")) op
  binary_like op (inclusive_like a x) unit_like = by_type (same_text (codes "range=") (codes "()")) op
  binary_like op (inclusive_like a x) (bool_like b) = by_type (same_text (codes "range=") (codes "bool")) op
  binary_like op (inclusive_like a x) (int_like b) = by_type (same_text (codes "range=") (codes "i64")) op
  binary_like op (inclusive_like a x) (float_like b) = no_entry_like
  binary_like op (inclusive_like a x) (char_like b) = by_type (same_text (codes "range=") (codes "char")) op
  binary_like op (inclusive_like a x) (text_like b) = by_type (same_text (codes "range=") (codes "string")) op
  binary_like op (inclusive_like a x) (array_like b) = by_type (same_text (codes "range=") (codes "array")) op
  binary_like op (inclusive_like a x) (map_like b) = by_type (same_text (codes "range=") (codes "map")) op
  binary_like op (inclusive_like a x) (pointer_like m b) = by_type (same_text (codes "range=") (codes "Fn")) op
  binary_like op (inclusive_like a x) (range_like b y) = by_type (same_text (codes "range=") (codes "range")) op
  binary_like op (inclusive_like a x) (inclusive_like b y) = by_type (same_text (codes "range=") (codes "range=")) op

  -- What an operator answers holds no pointer that was not among its operands.
  pub computed_like : (op : Operator) (vs ws : List Value) → Likes N vs ws → ComputedLike N (computed op vs) (computed op ws)
  unfolding computed
  computed_like op _ _ both_empty = no_entry_like
  computed_like op _ _ (both_more h both_empty) = unary_like op h
  computed_like op _ _ (both_more h (both_more j both_empty)) = binary_like op h j
  computed_like op _ _ (both_more h (both_more j (both_more k l))) = no_entry_like
