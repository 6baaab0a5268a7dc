-- Lists of items, one after another, by which of them hold a float; values that are no floats.
use Rattle.std.proofs.Common.{◌≡◌, ℕ, ◌+◌, ◌<◌, Bool, true, false, ◌||◌, Option, Some, None, List, length, get_or, drop, map, refl, sym, add-one, ap}
use Rattle.std.proofs.Math.Seq.{drop-cons, drop-length}
use Rattle.base_tokens.specs.declared.token.Token.{Token}
use Rattle.rhai_base.specs.declared.dynamic.Dynamic.{Dynamic}
use Rattle.rhai_base.specs.declared.dynamic.Dynamic.TheVariants as dynamic
use Rattle.rhai_base.specs.declared.float_wrapper.FloatWrapper.{FloatWrapper}
use Rattle.rhai_base.specs.Value.{Value, UnitV, BoolV, IntV, FloatV, CharV, TextV, ArrayV, MapV, PointerV, RangeV, RangeInclusiveV, values, holds_float, hold_float}
use Rattle.rhai_base.specs.Operators.{Operator, Computed, NoEntry, binary}
use Rattle.rhai_base.specs.Builtin.{is_float, has_float, row, binary_at, operator_of}
use Rattle.rhai_base.specs.Reading.{value_of, DynamicCase, float_case, dynamic_cases}
use Rattle.base_tokens.specs.declared.token.Token.TheVariants as token

pub hold_float-drop : (xs : List Dynamic) (i : ℕ) (d : Dynamic) → i < length xs
    → hold_float (values (map value_of (drop i xs))) ≡ holds_float (value_of (get_or xs i d)) || hold_float (values (map value_of (drop (i + 1) xs)))
hold_float-drop xs i d h = rw (add-one, drop-cons xs i d h) refl

pub hold_float-end : (xs : List Dynamic) → hold_float (values (map value_of (drop (length xs) xs))) ≡ false
hold_float-end xs = ap (λ ys. hold_float (values (map value_of ys))) (drop-length xs)

pub ruleset steps = (hold_float-drop, hold_float-end)

-- ---- operands

no_float : {v : Dynamic} {w : Value} → DynamicCase v w → ((x : FloatWrapper) → v ≡ dynamic.Float x → ⊥) → false ≡ is_float w
no_float (float_case x) h = absurd (h x refl)
no_float _ h = refl

pub is_float-other : (v : Dynamic) → ((x : FloatWrapper) → v ≡ dynamic.Float x → ⊥) → false ≡ is_float (value_of v)
is_float-other v h = no_float (dynamic_cases v) h

-- an operator with a float has no entry
none_left : (op : Operator) (v w : Value) → is_float v ≡ true → NoEntry ≡ binary op v w
unfolding binary
none_left op (FloatV x) (FloatV y) h = refl
none_left op (FloatV x) w h = refl
none_left op _ w h = absurd cc

none_right : (op : Operator) (v w : Value) → is_float w ≡ true → NoEntry ≡ binary op v w
unfolding binary
none_right op (FloatV x) (FloatV y) h = refl
none_right op v (FloatV y) h = refl
none_right op v _ h = absurd cc

row_left : (o : Option Operator) (v w : Value) → is_float v ≡ true → NoEntry ≡ row (λ op. binary op v w) o
row_left None v w h = refl
row_left (Some op) v w h = none_left op v w h

row_right : (o : Option Operator) (v w : Value) → is_float w ≡ true → NoEntry ≡ row (λ op. binary op v w) o
row_right None v w h = refl
row_right (Some op) v w h = none_right op v w h

float_row : (op : Token) (v w : Value) (a b : Bool) → is_float v ≡ a → is_float w ≡ b → (a || b) ≡ true → NoEntry ≡ binary_at op v w
float_row op v w true b p q h = row_left (operator_of op) v w p
float_row op v w false true p q h = row_right (operator_of op) v w q
float_row op v w false false p q h = absurd cc

pub no_entry : (op : Token) (v w : Value) → has_float v w ≡ true → NoEntry ≡ binary_at op v w
no_entry op v w h = float_row op v w (is_float v) (is_float w) refl refl h

neither : (a b : Bool) → (a || b) ≡ false → (a ≡ false) × (b ≡ false)
neither false b h = (refl, h)
neither true b h = absurd cc

pub no_floats : (v w : Value) → has_float v w ≡ false → (is_float v ≡ false) × (is_float w ≡ false)
no_floats v w h = neither (is_float v) (is_float w) h
