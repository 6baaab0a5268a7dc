-- Equality of values, by cases, is exact.
use Rattle.std.proofs.Common.{◌≡◌, ℤ, pos, negsuc, Bool, true, false, ◌&&◌, refl, sym, ap, ◌∙◌}
use Rattle.std.specs.Cmp.{unsigned_Decides}
use Rattle.std.proofs.lemmas.Bool.{and_parts}
use Rattle.std.proofs.lemmas.Slice.Eq.{bytes_eq-Decides}
use Rattle.rhai_base.specs.Value.{Text, Value, UnitV, BoolV, IntV, FloatV, CharV, TextV, ArrayV, MapV, PointerV, RangeV, RangeInclusiveV, Values, no_values, item, Fields, no_fields, field, same, same_items, same_fields, same_int, same_bool, same_text}

both : (a b : Bool) → a ≡ true → b ≡ true → (a && b) ≡ true
both a b h k = ap (λ c. c && b) h ∙ k

-- ---- what is the same is equal

int_exact : (a b : ℤ) → same_int a b ≡ true → a ≡ b
int_exact (pos a) (pos b) h = ap pos ((unsigned_Decides a b).0 h)
int_exact (negsuc a) (negsuc b) h = ap negsuc ((unsigned_Decides a b).0 h)
int_exact (pos a) (negsuc b) h = absurd (cc)
int_exact (negsuc a) (pos b) h = absurd (cc)

bool_exact : (a b : Bool) → same_bool a b ≡ true → a ≡ b
bool_exact true b h = sym h
bool_exact false true h = absurd (cc)
bool_exact false false h = refl

text_exact : (a b : Text) → same_text a b ≡ true → a ≡ b
text_exact a b h = (bytes_eq-Decides a b).0 h

mutual
  pub same_exact : (v w : Value) → same v w ≡ true → v ≡ w
  same_exact UnitV UnitV h = refl
  same_exact (BoolV a) (BoolV b) h = ap BoolV (bool_exact a b h)
  same_exact (IntV a) (IntV b) h = ap IntV (int_exact a b h)
  same_exact (FloatV a) (FloatV b) h = ap FloatV ((unsigned_Decides a b).0 h)
  same_exact (CharV a) (CharV b) h = ap CharV ((unsigned_Decides a b).0 h)
  same_exact (TextV a) (TextV b) h = ap TextV (text_exact a b h)
  same_exact (ArrayV a) (ArrayV b) h = ap ArrayV (items_exact a b h)
  same_exact (MapV a) (MapV b) h = ap MapV (fields_exact a b h)
  same_exact (PointerV f a) (PointerV g b) h = λ i. PointerV (text_exact f g (and_parts _ _ h).0 i) (items_exact a b (and_parts _ _ h).1 i)
  same_exact (RangeV a b) (RangeV c d) h = λ i. RangeV (int_exact a c (and_parts _ _ h).0 i) (int_exact b d (and_parts _ _ h).1 i)
  same_exact (RangeInclusiveV a b) (RangeInclusiveV c d) h = λ i. RangeInclusiveV (int_exact a c (and_parts _ _ h).0 i) (int_exact b d (and_parts _ _ h).1 i)
  same_exact _ _ h = absurd (cc)

  items_exact : (vs ws : Values) → same_items vs ws ≡ true → vs ≡ ws
  items_exact no_values no_values h = refl
  items_exact (item v vs) (item w ws) h = λ i. item (same_exact v w (and_parts _ _ h).0 i) (items_exact vs ws (and_parts _ _ h).1 i)
  items_exact _ _ h = absurd (cc)

  fields_exact : (fs gs : Fields) → same_fields fs gs ≡ true → fs ≡ gs
  fields_exact no_fields no_fields h = refl
  fields_exact (field k v fs) (field l w gs) h =
      let all = and_parts (same_text k l && same v w) _ h in
      let member = and_parts (same_text k l) _ all.0 in
      λ i. field (text_exact k l member.0 i) (same_exact v w member.1 i) (fields_exact fs gs all.1 i)
  fields_exact _ _ h = absurd (cc)

-- ---- each is the same as itself

int_same : (a : ℤ) → same_int a a ≡ true
int_same (pos a) = (unsigned_Decides a a).1 refl
int_same (negsuc a) = (unsigned_Decides a a).1 refl

bool_same : (a : Bool) → same_bool a a ≡ true
bool_same true = refl
bool_same false = refl

ast_same : (a : Text) → same_text a a ≡ true
ast_same a = (bytes_eq-Decides a a).1 refl

mutual
  pub same_itself : (v : Value) → same v v ≡ true
  same_itself UnitV = refl
  same_itself (BoolV a) = bool_same a
  same_itself (IntV a) = int_same a
  same_itself (FloatV a) = (unsigned_Decides a a).1 refl
  same_itself (CharV a) = (unsigned_Decides a a).1 refl
  same_itself (TextV a) = ast_same a
  same_itself (ArrayV a) = items_same a
  same_itself (MapV a) = fields_same a
  same_itself (PointerV f a) = both _ _ (ast_same f) (items_same a)
  same_itself (RangeV a b) = both _ _ (int_same a) (int_same b)
  same_itself (RangeInclusiveV a b) = both _ _ (int_same a) (int_same b)

  items_same : (vs : Values) → same_items vs vs ≡ true
  items_same no_values = refl
  items_same (item v vs) = both _ _ (same_itself v) (items_same vs)

  fields_same : (fs : Fields) → same_fields fs fs ≡ true
  fields_same no_fields = refl
  fields_same (field k v fs) = both _ _ (both _ _ (ast_same k) (same_itself v)) (fields_same fs)

equal_tests : (a b : Bool) → (a ≡ true → b ≡ true) → (b ≡ true → a ≡ true) → a ≡ b
equal_tests true b f g = sym (f refl)
equal_tests false true f g = g refl
equal_tests false false f g = refl

-- a test that holds of equal values alone is that of equality
pub tests_same : (b : Bool) (v w : Value) → (b ≡ true → v ≡ w) → (v ≡ w → b ≡ true) → b ≡ same v w
tests_same b v w f g = equal_tests b (same v w) (λ h. ap (same v) (sym (f h)) ∙ same_itself v) (λ h. g (same_exact v w h))
