-- The values that the declared ones stand for.
use Rattle.std.specs.Prelude.{◌≡◌, ℕ, ℤ, Bool, List, map}
use Rattle.std.proofs.Common.{sym, ap, ◌∙◌, subst}
use Rattle.rhai_base.specs.declared.dynamic.Dynamic.{Dynamic}
use Rattle.rhai_base.specs.declared.dynamic.Dynamic.TheOpen as open_one
use Rattle.rhai_base.specs.declared.dynamic.Dynamic.TheViews as views
use Rattle.rhai_base.specs.declared.dynamic.Dynamic.TheFolds as folds
use Rattle.rhai_base.specs.declared.dynamic.Dynamic.TheVariants as dynamic
use Rattle.rhai_base.specs.declared.float_wrapper.FloatWrapper.{FloatWrapper}
use Rattle.rhai_base.specs.declared.fn_ptr.FnPtr.{FnPtr}
use Rattle.rhai_base.specs.Value.{Text, Value, UnitV, BoolV, IntV, FloatV, CharV, TextV, ArrayV, MapV, PointerV, RangeV, RangeInclusiveV, Values, values, fields}

-- a pointer: its name, and the values of the first parameters
pub record PointerParts : Type 0 where
  pub name : Text
  pub curried : Values

abbrev value_step : open_one.Dynamic-F Value PointerParts → Value
value_step open_one.Unit = UnitV
value_step (open_one.Bool b) = BoolV b
value_step (open_one.Int n) = IntV n
value_step (open_one.Float x) = FloatV x.bits
value_step (open_one.Char c) = CharV c
value_step (open_one.Str t) = TextV t
value_step (open_one.Array vs) = ArrayV (values vs)
value_step (open_one.Map es) = MapV (fields es)
value_step (open_one.FnPtr p) = PointerV p.name p.curried
value_step (open_one.Range a b) = RangeV a b
value_step (open_one.RangeInclusive a b) = RangeInclusiveV a b

abbrev pointer_step : open_one.FnPtr-F Value PointerParts → PointerParts
pointer_step p = record { name = p.name; curried = values p.curried }

pub value_of : Dynamic → Value
value_of = folds.fold-Dynamic Value PointerParts value_step pointer_step

-- the members of a map, each with what its value stands for
abbrev pub members_of : List (Text × Dynamic) → List (Text × Value)
members_of es = map (λ e. (e.0, value_of e.1)) es

pointer_is : (p : FnPtr) → folds.fold-FnPtr Value PointerParts value_step pointer_step p ≡ record { name = p.name; curried = values (map value_of p.curried) }
unfolding value_of
pointer_is p = folds.fold_out-FnPtr Value PointerParts value_step pointer_step p ∙ ap (λ o. pointer_step (folds.map-FnPtr _ _ _ _ (folds.fold-Dynamic Value PointerParts value_step pointer_step) (folds.fold-FnPtr Value PointerParts value_step pointer_step) o)) (views.outs-struct-FnPtr p)

pub value_of-Unit : value_of dynamic.Unit ≡ UnitV
unfolding value_of
value_of-Unit = ap value_of (sym dynamic.rolls-Unit) ∙ folds.fold-roll-Dynamic Value PointerParts value_step pointer_step open_one.Unit

pub value_of-Bool : (b : Bool) → value_of (dynamic.Bool b) ≡ BoolV b
unfolding value_of
value_of-Bool b = ap value_of (sym (dynamic.rolls-Bool b)) ∙ folds.fold-roll-Dynamic Value PointerParts value_step pointer_step (open_one.Bool b)

pub value_of-Int : (n : ℤ) → value_of (dynamic.Int n) ≡ IntV n
unfolding value_of
value_of-Int n = ap value_of (sym (dynamic.rolls-Int n)) ∙ folds.fold-roll-Dynamic Value PointerParts value_step pointer_step (open_one.Int n)

pub value_of-Float : (x : FloatWrapper) → value_of (dynamic.Float x) ≡ FloatV x.bits
unfolding value_of
value_of-Float x = ap value_of (sym (dynamic.rolls-Float x)) ∙ folds.fold-roll-Dynamic Value PointerParts value_step pointer_step (open_one.Float x)

pub value_of-Char : (c : ℕ) → value_of (dynamic.Char c) ≡ CharV c
unfolding value_of
value_of-Char c = ap value_of (sym (dynamic.rolls-Char c)) ∙ folds.fold-roll-Dynamic Value PointerParts value_step pointer_step (open_one.Char c)

pub value_of-Str : (t : Text) → value_of (dynamic.Str t) ≡ TextV t
unfolding value_of
value_of-Str t = ap value_of (sym (dynamic.rolls-Str t)) ∙ folds.fold-roll-Dynamic Value PointerParts value_step pointer_step (open_one.Str t)

pub value_of-Array : (vs : List Dynamic) → value_of (dynamic.Array vs) ≡ ArrayV (values (map value_of vs))
unfolding value_of
value_of-Array vs = ap value_of (sym (dynamic.rolls-Array vs)) ∙ folds.fold-roll-Dynamic Value PointerParts value_step pointer_step (open_one.Array vs)

pub value_of-Map : (es : List (Text × Dynamic)) → value_of (dynamic.Map es) ≡ MapV (fields (members_of es))
unfolding value_of
value_of-Map es = ap value_of (sym (dynamic.rolls-Map es)) ∙ folds.fold-roll-Dynamic Value PointerParts value_step pointer_step (open_one.Map es)

pub value_of-FnPtr : (p : FnPtr) → value_of (dynamic.FnPtr p) ≡ PointerV p.name (values (map value_of p.curried))
unfolding value_of
value_of-FnPtr p = ap value_of (sym (dynamic.rolls-FnPtr p)) ∙ folds.fold-roll-Dynamic Value PointerParts value_step pointer_step (open_one.FnPtr p) ∙ ap (λ q. PointerV q.name q.curried) (pointer_is p)

pub value_of-Range : (a b : ℤ) → value_of (dynamic.Range a b) ≡ RangeV a b
unfolding value_of
value_of-Range a b = ap value_of (sym (dynamic.rolls-Range a b)) ∙ folds.fold-roll-Dynamic Value PointerParts value_step pointer_step (open_one.Range a b)

pub value_of-RangeInclusive : (a b : ℤ) → value_of (dynamic.RangeInclusive a b) ≡ RangeInclusiveV a b
unfolding value_of
value_of-RangeInclusive a b = ap value_of (sym (dynamic.rolls-RangeInclusive a b)) ∙ folds.fold-roll-Dynamic Value PointerParts value_step pointer_step (open_one.RangeInclusive a b)

-- which kind a value is, with what it stands for
pub data DynamicCase : Dynamic → Value → Type 0 where
  unit_case : DynamicCase dynamic.Unit UnitV
  bool_case : (b : Bool) → DynamicCase (dynamic.Bool b) (BoolV b)
  int_case : (n : ℤ) → DynamicCase (dynamic.Int n) (IntV n)
  float_case : (x : FloatWrapper) → DynamicCase (dynamic.Float x) (FloatV x.bits)
  char_case : (c : ℕ) → DynamicCase (dynamic.Char c) (CharV c)
  str_case : (t : Text) → DynamicCase (dynamic.Str t) (TextV t)
  array_case : (vs : List Dynamic) → DynamicCase (dynamic.Array vs) (ArrayV (values (map value_of vs)))
  map_case : (es : List (Text × Dynamic)) → DynamicCase (dynamic.Map es) (MapV (fields (members_of es)))
  fn_ptr_case : (p : FnPtr) → DynamicCase (dynamic.FnPtr p) (PointerV p.name (values (map value_of p.curried)))
  range_case : (a b : ℤ) → DynamicCase (dynamic.Range a b) (RangeV a b)
  range_inclusive_case : (a b : ℤ) → DynamicCase (dynamic.RangeInclusive a b) (RangeInclusiveV a b)

case_as : {x y : Dynamic} {v : Value} → x ≡ y → value_of y ≡ v → DynamicCase y v → DynamicCase x (value_of x)
case_as {y = y} i j c = subst (λ z. DynamicCase z (value_of z)) (sym i) (subst (DynamicCase y) (sym j) c)

rolled : (x : open_one.Dynamic-F Dynamic FnPtr) → DynamicCase (views.roll-Dynamic x) (value_of (views.roll-Dynamic x))
rolled open_one.Unit = case_as dynamic.rolls-Unit value_of-Unit unit_case
rolled (open_one.Bool b) = case_as (dynamic.rolls-Bool b) (value_of-Bool b) (bool_case b)
rolled (open_one.Int n) = case_as (dynamic.rolls-Int n) (value_of-Int n) (int_case n)
rolled (open_one.Float x) = case_as (dynamic.rolls-Float x) (value_of-Float x) (float_case x)
rolled (open_one.Char c) = case_as (dynamic.rolls-Char c) (value_of-Char c) (char_case c)
rolled (open_one.Str t) = case_as (dynamic.rolls-Str t) (value_of-Str t) (str_case t)
rolled (open_one.Array vs) = case_as (dynamic.rolls-Array vs) (value_of-Array vs) (array_case vs)
rolled (open_one.Map es) = case_as (dynamic.rolls-Map es) (value_of-Map es) (map_case es)
rolled (open_one.FnPtr p) = case_as (dynamic.rolls-FnPtr p) (value_of-FnPtr p) (fn_ptr_case p)
rolled (open_one.Range a b) = case_as (dynamic.rolls-Range a b) (value_of-Range a b) (range_case a b)
rolled (open_one.RangeInclusive a b) = case_as (dynamic.rolls-RangeInclusive a b) (value_of-RangeInclusive a b) (range_inclusive_case a b)

pub dynamic_cases : (v : Dynamic) → DynamicCase v (value_of v)
dynamic_cases v = subst (λ w. DynamicCase w (value_of w)) (views.roll-out-Dynamic v) (rolled (views.out-Dynamic v))

-- the equations by which the checker reads a declared value
pub ruleset kinds = (
  value_of-Unit,
  value_of-Bool,
  value_of-Int,
  value_of-Float,
  value_of-Char,
  value_of-Str,
  value_of-Array,
  value_of-Map,
  value_of-FnPtr,
  value_of-Range,
  value_of-RangeInclusive,
)
