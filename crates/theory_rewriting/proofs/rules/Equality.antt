-- Values that the test finds the same are equal.
use Rattle.std.proofs.Common.{◌≡◌, ℕ, Bool, true, false, refl, ap}
use Rattle.std.specs.Prelude.{ℤ, pos, negsuc, ◌==◌, ◌&&◌}
use Rattle.std.proofs.lemmas.Bool.Decides.{Decides-eqb}
use Rattle.std.proofs.lemmas.Slice.Eq.{bytes_eq-Decides}
use Rattle.rhai_base.specs.Value.{Text, Value, UnitV, BoolV, IntV, FloatV, CharV, TextV, ArrayV, MapV, PointerV, RangeV, RangeInclusiveV, Values, no_values, item, Fields, no_fields, field, same_text, same_int, same_bool, same, same_items, same_fields}

false_true : (A : Type 0) → false ≡ true → A
false_true A h = absurd (let z : false ≡ true = h in cc)

-- both of two tests
both_true : (a b : Bool) → (a && b) ≡ true → (a ≡ true) × (b ≡ true)
both_true true b h = (refl, h)
both_true false b h = false_true _ h

pub nat_is : (a b : ℕ) → (a == b) ≡ true → a ≡ b
nat_is a b h = (Decides-eqb a b).0 h

pub text_is : (a b : Text) → same_text a b ≡ true → a ≡ b
text_is a b h = (bytes_eq-Decides a b).0 h

int_is : (a b : ℤ) → same_int a b ≡ true → a ≡ b
int_is (pos a) (pos b) h = ap pos (nat_is a b h)
int_is (negsuc a) (negsuc b) h = ap negsuc (nat_is a b h)
int_is a b h = false_true _ h

bool_is : (a b : Bool) → same_bool a b ≡ true → a ≡ b
bool_is true true h = refl
bool_is true false h = false_true _ h
bool_is false true h = false_true _ h
bool_is false false h = refl

mutual
  pub same_is : (a b : Value) → same a b ≡ true → a ≡ b
  same_is UnitV UnitV h = refl
  same_is (BoolV a) (BoolV b) h = ap BoolV (bool_is a b h)
  same_is (IntV a) (IntV b) h = ap IntV (int_is a b h)
  same_is (FloatV a) (FloatV b) h = ap FloatV (nat_is a b h)
  same_is (CharV a) (CharV b) h = ap CharV (nat_is a b h)
  same_is (TextV a) (TextV b) h = ap TextV (text_is a b h)
  same_is (ArrayV a) (ArrayV b) h = ap ArrayV (items_are a b h)
  same_is (MapV a) (MapV b) h = ap MapV (fields_are a b h)
  same_is (PointerV f a) (PointerV g b) h = let q = both_true (same_text f g) (same_items a b) h in λ i. PointerV (text_is f g q.0 i) (items_are a b q.1 i)
  same_is (RangeV a b) (RangeV c d) h = let q = both_true (same_int a c) (same_int b d) h in λ i. RangeV (int_is a c q.0 i) (int_is b d q.1 i)
  same_is (RangeInclusiveV a b) (RangeInclusiveV c d) h = let q = both_true (same_int a c) (same_int b d) h in λ i. RangeInclusiveV (int_is a c q.0 i) (int_is b d q.1 i)
  same_is a b h = false_true _ h

  items_are : (a b : Values) → same_items a b ≡ true → a ≡ b
  items_are no_values no_values h = refl
  items_are (item v vs) (item u us) h = let q = both_true (same v u) (same_items vs us) h in λ i. item (same_is v u q.0 i) (items_are vs us q.1 i)
  items_are a b h = false_true _ h

  fields_are : (a b : Fields) → same_fields a b ≡ true → a ≡ b
  fields_are no_fields no_fields h = refl
  fields_are (field k v fs) (field l u gs) h =
      let p = both_true (same_text k l && same v u) (same_fields fs gs) h in
      let q = both_true (same_text k l) (same v u) p.0 in λ i. field (text_is k l q.0 i) (same_is v u q.1 i) (fields_are fs gs p.1 i)
  fields_are a b h = false_true _ h
