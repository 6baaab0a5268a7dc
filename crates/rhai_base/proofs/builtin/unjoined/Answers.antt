use Rattle.std.proofs.Common.{rules, w64}
use Rattle.std.proofs.lemmas.Int.{to_z-of_z}
use mir.Val.{SFits}
use Rattle.rhai_base.proofs.Differing.{ints_row, unit_row, bool_row, int_row, float_row, char_row, str_row, array_row, map_row, fn_ptr_row, range_row, range_inclusive_row}
use Rattle.rhai_base.proofs.builtin.unjoined.Goals as goal
use Rattle.rhai_base.proofs.builtin.unjoined.Goals.{in_default-via-in-Int+in_default, in_default-via-in-Bool+in_default, in_default-via-in-Str+in_default, in_default-via-in-Char+in_default, in_default-via-in-Unit+in_default, in_default-via-in-Float+in_default, in_default-via-in-Array+in_default, in_default-via-in-Map+in_default, in_default-via-in-FnPtr+in_default, in_default-via-in-Range+in_default, in_default-via-in-RangeInclusive+in_default}

pub returns-in-Int-Int : goal.returns-in-Int-Int
returns-in-Int-Int c =
    let x_fits : SFits w64 c.in-Int-Int.x = search rules in
    let y_fits : SFits w64 c.in-Int-Int.y = search rules in
    ints_row _ _ _ _ _ _ c.in-Int-Int.is-0 c.in-Int-Int.is-1 (simp to_z-of_z at c.integers.ensures)

pub returns-in_default : goal.returns-in_default
returns-in_default c =
    elim c.in_default.branch [
      | in_default-via-in-Int+in_default w ↦ int_row _ _ _ _ _ w.in_default.is-0 w.in_default.not-Int-1 c.equality-in_default.ensures
      | in_default-via-in-Bool+in_default w ↦ bool_row _ _ _ _ _ w.in_default.is-0 w.in_default.not-Bool-1 c.equality-in_default.ensures
      | in_default-via-in-Str+in_default w ↦ str_row _ _ _ _ _ w.in_default.is-0 w.in_default.not-Str-1 c.equality-in_default.ensures
      | in_default-via-in-Char+in_default w ↦ char_row _ _ _ _ _ w.in_default.is-0 w.in_default.not-Char-1 c.equality-in_default.ensures
      | in_default-via-in-Unit+in_default w ↦ unit_row _ _ _ _ w.in_default.is-0 w.in_default.not-Unit-1 c.equality-in_default.ensures
      | in_default-via-in-Float+in_default w ↦ float_row _ _ _ _ _ w.in_default.is-0 w.in_default.not-Float-1 c.equality-in_default.ensures
      | in_default-via-in-Array+in_default w ↦ array_row _ _ _ _ _ w.in_default.is-0 w.in_default.not-Array-1 c.equality-in_default.ensures
      | in_default-via-in-Map+in_default w ↦ map_row _ _ _ _ _ w.in_default.is-0 w.in_default.not-Map-1 c.equality-in_default.ensures
      | in_default-via-in-FnPtr+in_default w ↦ fn_ptr_row _ _ _ _ _ w.in_default.is-0 w.in_default.not-FnPtr-1 c.equality-in_default.ensures
      | in_default-via-in-Range+in_default w ↦ range_row _ _ _ _ _ _ w.in_default.is-0 w.in_default.not-Range-1 c.equality-in_default.ensures
      | in_default-via-in-RangeInclusive+in_default w ↦ range_inclusive_row _ _ _ _ _ _ w.in_default.is-0 w.in_default.not-RangeInclusive-1 c.equality-in_default.ensures
    ]
