-- Equality of values is exact: what `==` says of two values that derive it.
use Rattle.std.proofs.Common.{◌≡◌, Bool, true, false, ◌&&◌, List, [], ◌∷◌, map, nat_eq, sym, ap, ◌∙◌, refl, subst}
use Rattle.std.specs.Ordering.{int_eq}
use Rattle.std.specs.Cmp.{booleans_Decides, unsigned_Decides}
use Rattle.std.specs.Cmp.Lexicographic.{pointwise}
use Rattle.std.proofs.lemmas.Bool.Decides.{Decides-int_eq}
use mathlib.Core.Bool.{true≢false, beq}
use denote.Hole.Carrier.{out, roll}
use Rattle.rhai_base.specs.Value.{Text}
use Rattle.rhai_base.specs.declared.dynamic.Dynamic.{Dynamic}
use Rattle.rhai_base.specs.declared.dynamic.Dynamic.TheOpen as open_one
use Rattle.rhai_base.specs.declared.dynamic.Dynamic.TheViews as views
use Rattle.rhai_base.specs.declared.dynamic.Dynamic.TheFolds as folds
use Rattle.rhai_base.specs.declared.float_wrapper.FloatWrapper.{FloatWrapper}
use Rattle.rhai_base.specs.declared.fn_ptr.FnPtr.{FnPtr}
use Rattle.rhai_base.specs.contracts.dynamic.DynamicPartialEq.TheImpl as impl
use Rattle.rhai_base.specs.contracts.dynamic.DynamicPartialEq.TheImpl.Laws as laws
use Rattle.rhai_base.specs.contracts.float_wrapper.FloatWrapperPartialEq.TheImpl as float_impl
use Rattle.rhai_base.specs.contracts.fn_ptr.FnPtrPartialEq.TheImpl as pointer_impl
use Rattle.rhai_base.specs.contracts.fn_ptr.FnPtrPartialEq.TheImpl.Laws as pointer_laws

abbrev pub equal : Dynamic → Dynamic → Bool
equal = impl.ghosts.eq

-- both of two answers
first : (a b : Bool) → (a && b) ≡ true → a ≡ true
first true b h = refl
first false b h = h

second : (a b : Bool) → (a && b) ≡ true → b ≡ true
second true b h = h
second false b h = absurd (true≢false (sym h))

pub text_exact : (a b : Text) → pointwise nat_eq a b ≡ true → a ≡ b
text_exact [] [] h = refl
text_exact [] (d ∷ b) h = absurd (true≢false (sym h))
text_exact (c ∷ a) [] h = absurd (true≢false (sym h))
text_exact (c ∷ a) (d ∷ b) h = λ i. (unsigned_Decides c d).0 (first _ _ h) i ∷ text_exact a b (second _ _ h) i

-- ---- by induction on values

abbrev Exact : Dynamic → Type 0
Exact x = (y : Dynamic) → equal x y ≡ true → x ≡ y

abbrev ExactPointer : FnPtr → Type 0
ExactPointer p = (q : FnPtr) → pointwise equal p.curried q.curried ≡ true → p.curried ≡ q.curried

abbrev Known : Type 0
Known = (d : Dynamic) × Exact d

abbrev KnownPointer : Type 0
KnownPointer = (p : FnPtr) × ExactPointer p

items_exact : (es : List Known) (ys : List Dynamic) → pointwise equal (map (λ e. e.0) es) ys ≡ true → map (λ e. e.0) es ≡ ys
items_exact [] [] h = refl
items_exact [] (y ∷ ys) h = absurd (true≢false (sym h))
items_exact (e ∷ es) [] h = absurd (true≢false (sym h))
items_exact (e ∷ es) (y ∷ ys) h = λ i. e.1 y (first _ _ h) i ∷ items_exact es ys (second _ _ h) i

abbrev member_equal : (Text × Dynamic) → (Text × Dynamic) → Bool
member_equal p q = pointwise nat_eq p.0 q.0 && equal p.1 q.1

members_exact : (es : List (Text × Known)) (ys : List (Text × Dynamic)) → pointwise member_equal (map (λ e. (e.0, e.1.0)) es) ys ≡ true → map {A = Text × Known} {B = Text × Dynamic} (λ e. (e.0, e.1.0)) es ≡ ys
members_exact [] [] h = refl
members_exact [] (y ∷ ys) h = absurd (true≢false (sym h))
members_exact (e ∷ es) [] h = absurd (true≢false (sym h))
members_exact (e ∷ es) (y ∷ ys) h = λ i. (text_exact e.0 y.0 (first _ _ (first _ _ h)) i, e.1.1 y.1 (second _ _ (first _ _ h)) i) ∷ members_exact es ys (second _ _ h) i

apart : (x y : Dynamic) → laws.unfolded x y ≡ false → equal x y ≡ true → ⊥
apart x y u h = true≢false (sym h ∙ laws.is x y ∙ u)

below : open_one.Dynamic-F Known KnownPointer → Dynamic
below a = views.roll-Dynamic (folds.map-Dynamic Known KnownPointer Dynamic FnPtr (λ e. e.0) (λ e. e.0) a)

-- what a layer holds, or what is given where it holds no such part
items_in : open_one.Dynamic-F Dynamic FnPtr → List Dynamic
items_in (open_one.Array xs) = xs
items_in _ = []

members_in : open_one.Dynamic-F Dynamic FnPtr → List (Text × Dynamic)
members_in (open_one.Map es) = es
members_in _ = []

pointer_in : FnPtr → open_one.Dynamic-F Dynamic FnPtr → FnPtr
pointer_in p (open_one.FnPtr q) = q
pointer_in p _ = p

abbrev held : open_one.Dynamic-F Dynamic FnPtr → open_one.Dynamic-F Dynamic FnPtr
held a = views.out-Dynamic (views.roll-Dynamic a)

items_held : (xs : List Dynamic) → xs ≡ items_in (held (open_one.Array xs))
unfolding items_in
items_held xs = sym (ap items_in (views.out-roll-Dynamic (open_one.Array xs)))

members_held : (es : List (Text × Dynamic)) → es ≡ members_in (held (open_one.Map es))
unfolding members_in
members_held es = sym (ap members_in (views.out-roll-Dynamic (open_one.Map es)))

pointer_held : (p q : FnPtr) → q ≡ pointer_in p (held (open_one.FnPtr q))
unfolding pointer_in
pointer_held p q = sym (ap (pointer_in p) (views.out-roll-Dynamic (open_one.FnPtr q)))

float_in : FloatWrapper → open_one.Dynamic-F Dynamic FnPtr → FloatWrapper
float_in x (open_one.Float y) = y
float_in x _ = x

float_held : (x y : FloatWrapper) → y ≡ float_in x (held (open_one.Float y))
unfolding float_in
float_held x y = sym (ap (float_in x) (views.out-roll-Dynamic (open_one.Float y)))

abbrev pub floats_equal : FloatWrapper → FloatWrapper → Bool
floats_equal = float_impl.ghosts.eq

-- floats are compared by their bits
float_exact : (x y : FloatWrapper) → floats_equal x y ≡ true → x ≡ y
float_exact x y h = ap (λ n. record { bits = n }) ((unsigned_Decides x.bits y.bits).0 h)

abbrev pub pointers_equal : FnPtr → FnPtr → Bool
pointers_equal = pointer_impl.ghosts.eq

-- pointers are compared by their names and their values
pointer_parts : (p q : FnPtr) → pointers_equal p q ≡ true → (pointwise nat_eq p.name q.name && pointwise equal p.curried q.curried) ≡ true
pointer_parts p q h = sym (pointer_laws.is p q) ∙ h

-- one layer, from what is known of the values in it
layers : (a : open_one.Dynamic-F Known KnownPointer) (b : open_one.Dynamic-F Dynamic FnPtr) → equal (below a) (views.roll-Dynamic b) ≡ true → below a ≡ views.roll-Dynamic b
unfolding views.out-Dynamic out views.roll-Dynamic roll below items_in members_in pointer_in float_in
layers open_one.Unit open_one.Unit h = refl
layers (open_one.Bool x) (open_one.Bool y) h =
    let u : beq x y ≡ true = sym (laws.is (below (open_one.Bool x)) (views.roll-Dynamic (open_one.Bool y))) ∙ h in
    ap (λ v. views.roll-Dynamic (open_one.Bool v)) ((booleans_Decides x y).0 u)
layers (open_one.Int x) (open_one.Int y) h =
    let u : int_eq x y ≡ true = sym (laws.is (below (open_one.Int x)) (views.roll-Dynamic (open_one.Int y))) ∙ h in
    ap (λ v. views.roll-Dynamic (open_one.Int v)) ((Decides-int_eq x y).0 u)
layers (open_one.Float x) (open_one.Float y) h =
    let u : floats_equal (float_in y (held (open_one.Float x))) (float_in y (held (open_one.Float y))) ≡ true = sym (laws.is (below (open_one.Float x)) (views.roll-Dynamic (open_one.Float y))) ∙ h in
    ap (λ v. views.roll-Dynamic (open_one.Float v)) (float_exact x y ((λ i. floats_equal (float_held y x i) (float_held y y i)) ∙ u))
layers (open_one.Char x) (open_one.Char y) h =
    let u : nat_eq x y ≡ true = sym (laws.is (below (open_one.Char x)) (views.roll-Dynamic (open_one.Char y))) ∙ h in
    ap (λ v. views.roll-Dynamic (open_one.Char v)) ((unsigned_Decides x y).0 u)
layers (open_one.Str x) (open_one.Str y) h =
    let u : pointwise nat_eq x y ≡ true = sym (laws.is (below (open_one.Str x)) (views.roll-Dynamic (open_one.Str y))) ∙ h in
    ap (λ v. views.roll-Dynamic (open_one.Str v)) (text_exact x y u)
layers (open_one.Array x) (open_one.Array y) h =
    let xs : List Dynamic = map (λ e. e.0) x in
    let u : pointwise equal (items_in (held (open_one.Array xs))) (items_in (held (open_one.Array y))) ≡ true = sym (laws.is (below (open_one.Array x)) (views.roll-Dynamic (open_one.Array y))) ∙ h in
    ap (λ v. views.roll-Dynamic (open_one.Array v)) (items_exact x y ((λ i. pointwise equal (items_held xs i) (items_held y i)) ∙ u))
layers (open_one.Map x) (open_one.Map y) h =
    let es : List (Text × Dynamic) = map (λ e. (e.0, e.1.0)) x in
    let u : pointwise member_equal (members_in (held (open_one.Map es))) (members_in (held (open_one.Map y))) ≡ true = sym (laws.is (below (open_one.Map x)) (views.roll-Dynamic (open_one.Map y))) ∙ h in
    ap (λ v. views.roll-Dynamic (open_one.Map v)) (members_exact x y ((λ i. pointwise member_equal (members_held es i) (members_held y i)) ∙ u))
layers (open_one.FnPtr x) (open_one.FnPtr y) h =
    let u : pointers_equal (pointer_in y (held (open_one.FnPtr x.0))) (pointer_in y (held (open_one.FnPtr y))) ≡ true = sym (laws.is (below (open_one.FnPtr x)) (views.roll-Dynamic (open_one.FnPtr y))) ∙ h in
    let same = pointer_parts x.0 y ((λ i. pointers_equal (pointer_held y x.0 i) (pointer_held y y i)) ∙ u) in
    λ i. views.roll-Dynamic (open_one.FnPtr (record { name = text_exact x.0.name y.name (first _ _ same) i; curried = x.1 y (second _ _ same) i }))
layers (open_one.Range x x') (open_one.Range y y') h =
    let u : (int_eq x y && int_eq x' y') ≡ true = sym (laws.is (below (open_one.Range x x')) (views.roll-Dynamic (open_one.Range y y'))) ∙ h in
    λ i. views.roll-Dynamic (open_one.Range ((Decides-int_eq x y).0 (first _ _ u) i) ((Decides-int_eq x' y').0 (second _ _ u) i))
layers (open_one.RangeInclusive x x') (open_one.RangeInclusive y y') h =
    let u : (int_eq x y && int_eq x' y') ≡ true = sym (laws.is (below (open_one.RangeInclusive x x')) (views.roll-Dynamic (open_one.RangeInclusive y y'))) ∙ h in
    λ i. views.roll-Dynamic (open_one.RangeInclusive ((Decides-int_eq x y).0 (first _ _ u) i) ((Decides-int_eq x' y').0 (second _ _ u) i))
layers _ _ h = absurd (apart _ _ refl h)

layer : (a : open_one.Dynamic-F Known KnownPointer) → Exact (below a)
layer a y = subst (λ v. equal (below a) v ≡ true → below a ≡ v) (views.roll-out-Dynamic y) (layers a (views.out-Dynamic y))

pointer : (a : open_one.FnPtr-F Known KnownPointer) → ExactPointer (views.roll-FnPtr (folds.map-FnPtr Known KnownPointer Dynamic FnPtr (λ e. e.0) (λ e. e.0) a))
pointer a q h = items_exact a.curried q.curried h

exact_at : (x : Dynamic) → Exact x
unfolding below
exact_at = folds.ind-Dynamic Exact ExactPointer (λ x y is. subst (λ z. Exact (views.roll-Dynamic z)) is (layer y)) (λ x y is. subst (λ z. ExactPointer (views.roll-FnPtr z)) is (pointer y))

-- values are equal where `==` says so, and only there
pub exact : (x y : Dynamic) → equal x y ≡ true → x ≡ y
exact x y h = exact_at x y h
