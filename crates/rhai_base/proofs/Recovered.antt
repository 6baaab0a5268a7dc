-- What a declared value stands for determines it.
use Rattle.std.proofs.Common.{◌≡◌, List, [], ◌∷◌, map, sym, ap, ◌∙◌, refl, subst}
use Rattle.rhai_base.specs.declared.dynamic.Dynamic.{Dynamic}
use Rattle.rhai_base.specs.declared.dynamic.Dynamic.TheOpen as open_one
use Rattle.rhai_base.specs.declared.dynamic.Dynamic.TheViews as views
use Rattle.rhai_base.specs.declared.dynamic.Dynamic.TheFolds as folds
use Rattle.rhai_base.specs.declared.dynamic.Dynamic.TheVariants as dynamic
use Rattle.rhai_base.specs.declared.fn_ptr.FnPtr.{FnPtr}
use Rattle.rhai_base.specs.Value.{Text, Value, UnitV, BoolV, IntV, FloatV, CharV, TextV, ArrayV, MapV, PointerV, RangeV, RangeInclusiveV, Values, no_values, item, Fields, no_fields, field, values, fields}
use Rattle.rhai_base.specs.Reading.{value_of, members_of, value_of-Unit, value_of-Bool, value_of-Int, value_of-Float, value_of-Char, value_of-Str, value_of-Array, value_of-Map, value_of-FnPtr, value_of-Range, value_of-RangeInclusive}

-- the declared value that stands for one
abbrev mutual
  declared : Value → Dynamic
  declared UnitV = dynamic.Unit
  declared (BoolV b) = dynamic.Bool b
  declared (IntV n) = dynamic.Int n
  declared (FloatV x) = dynamic.Float (record { bits = x })
  declared (CharV c) = dynamic.Char c
  declared (TextV t) = dynamic.Str t
  declared (ArrayV vs) = dynamic.Array (declared_items vs)
  declared (MapV fs) = dynamic.Map (declared_members fs)
  declared (PointerV f vs) = dynamic.FnPtr (record { name = f; curried = declared_items vs })
  declared (RangeV a b) = dynamic.Range a b
  declared (RangeInclusiveV a b) = dynamic.RangeInclusive a b

  declared_items : Values → List Dynamic
  declared_items no_values = []
  declared_items (item v vs) = declared v ∷ declared_items vs

  declared_members : Fields → List (Text × Dynamic)
  declared_members no_fields = []
  declared_members (field k v fs) = (k, declared v) ∷ declared_members fs

abbrev Recovered : Dynamic → Type 0
Recovered x = declared (value_of x) ≡ x

abbrev RecoveredPointer : FnPtr → Type 0
RecoveredPointer p = declared_items (values (map value_of p.curried)) ≡ p.curried

abbrev Known : Type 0
Known = (d : Dynamic) × Recovered d

abbrev KnownPointer : Type 0
KnownPointer = (p : FnPtr) × RecoveredPointer p

items_recovered : (es : List Known) → declared_items (values (map value_of (map (λ e. e.0) es))) ≡ map (λ e. e.0) es
items_recovered [] = refl
items_recovered (e ∷ es) = λ i. e.1 i ∷ items_recovered es i

members_recovered : (es : List (Text × Known)) → declared_members (fields (members_of (map (λ e. (e.0, e.1.0)) es))) ≡ map {A = Text × Known} {B = Text × Dynamic} (λ e. (e.0, e.1.0)) es
members_recovered [] = refl
members_recovered (e ∷ es) = λ i. (e.0, e.1.1 i) ∷ members_recovered es i

-- a value in another form
recovered : (x y : Dynamic) → x ≡ y → declared (value_of y) ≡ y → Recovered x
recovered x y e h = ap (λ z. declared (value_of z)) e ∙ h ∙ sym e

below : open_one.Dynamic-F Known KnownPointer → Dynamic
below a = views.roll-Dynamic (folds.map-Dynamic Known KnownPointer Dynamic FnPtr (λ e. e.0) (λ e. e.0) a)

-- one layer, from what is known of the values in it
layer : (a : open_one.Dynamic-F Known KnownPointer) → Recovered (below a)
unfolding below
layer open_one.Unit = recovered _ _ dynamic.rolls-Unit (ap declared value_of-Unit)
layer (open_one.Bool b) = recovered _ _ (dynamic.rolls-Bool b) (ap declared (value_of-Bool b))
layer (open_one.Int n) = recovered _ _ (dynamic.rolls-Int n) (ap declared (value_of-Int n))
layer (open_one.Float x) = recovered _ _ (dynamic.rolls-Float x) (ap declared (value_of-Float x))
layer (open_one.Char c) = recovered _ _ (dynamic.rolls-Char c) (ap declared (value_of-Char c))
layer (open_one.Str t) = recovered _ _ (dynamic.rolls-Str t) (ap declared (value_of-Str t))
layer (open_one.Array es) =
    let xs : List Dynamic = map (λ e. e.0) es in
    recovered _ _ (dynamic.rolls-Array xs) (ap declared (value_of-Array xs) ∙ ap dynamic.Array (items_recovered es))
layer (open_one.Map es) =
    let xs : List (Text × Dynamic) = map (λ e. (e.0, e.1.0)) es in
    recovered _ _ (dynamic.rolls-Map xs) (ap declared (value_of-Map xs) ∙ ap dynamic.Map (members_recovered es))
layer (open_one.FnPtr p) =
    recovered _ _ (dynamic.rolls-FnPtr p.0) (ap declared (value_of-FnPtr p.0) ∙ ap (λ vs. dynamic.FnPtr (record { name = p.0.name; curried = vs })) p.1)
layer (open_one.Range a b) = recovered _ _ (dynamic.rolls-Range a b) (ap declared (value_of-Range a b))
layer (open_one.RangeInclusive a b) = recovered _ _ (dynamic.rolls-RangeInclusive a b) (ap declared (value_of-RangeInclusive a b))

pointer : (a : open_one.FnPtr-F Known KnownPointer) → RecoveredPointer (views.roll-FnPtr (folds.map-FnPtr Known KnownPointer Dynamic FnPtr (λ e. e.0) (λ e. e.0) a))
pointer a = items_recovered a.curried

-- the declared value is found again
pub value_recovered : (x : Dynamic) → Recovered x
unfolding below
value_recovered = folds.ind-Dynamic Recovered RecoveredPointer (λ x y is. subst (λ z. Recovered (views.roll-Dynamic z)) is (layer y)) (λ x y is. subst (λ z. RecoveredPointer (views.roll-FnPtr z)) is (pointer y))

-- declared values that stand for one value are equal
pub same_value : (x y : Dynamic) → value_of x ≡ value_of y → x ≡ y
same_value x y h = sym (value_recovered x) ∙ ap declared h ∙ value_recovered y
