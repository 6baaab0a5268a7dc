-- What is left to choose in a `switch` over a constant: neither several arms nor ranges.
use Rattle.std.specs.Prelude.{ℕ, Bool, true, false, ◌&&◌, List, [], ◌∷◌, Option, Some, None}
use Rattle.rhai_base.specs.Value.{Value, UnitV, BoolV, IntV, FloatV, CharV, TextV, is_hashable}
use Rattle.theory_meaning.specs.Control.{case_for, ranges_with}
use Rattle.theory_meaning.specs.Tree.{SwitchTable, Expr, DynamicConstant, BoolConstant, IntegerConstant, FloatConstant, CharConstant, StringConstant, UnitConstant}

-- a case list of at most one arm, or neither a case list nor a range
abbrev pub is_short : Option (List ℕ) → List ℕ → Bool
is_short (Some []) rs = true
is_short (Some (i ∷ [])) rs = true
is_short (Some (i ∷ j ∷ is)) rs = false
is_short None [] = true
is_short None (r ∷ rs) = false

abbrev pub is_short_for : SwitchTable → Value → Bool
is_short_for t v = is_hashable v && is_short (case_for t.cases v) (ranges_with t.ranges v)

-- the value of one of the constant variants or of unit
abbrev pub own_value : Expr → Option Value
own_value (DynamicConstant v) = Some v
own_value (BoolConstant b) = Some (BoolV b)
own_value (IntegerConstant n) = Some (IntV n)
own_value (FloatConstant x) = Some (FloatV x)
own_value (CharConstant c) = Some (CharV c)
own_value (StringConstant t) = Some (TextV t)
own_value UnitConstant = Some UnitV
own_value _ = None

abbrev pub is_short_over : SwitchTable → Option Value → Bool
is_short_over t (Some v) = is_short_for t v
is_short_over t None = false

abbrev pub is_chosen : Expr → SwitchTable → Bool
is_chosen e t = is_short_over t (own_value e)
