-- Entries of maps, and elements of arrays, by what they were made of.
use Rattle.std.proofs.Common.{◌≡◌, ℕ, suc, Bool, true, false, cond, List, [], ◌∷◌, length, Option, Some, None, refl, sym, ap, ◌∙◌}
use Rattle.std.specs.Prelude.{ℤ, codes, option_map}
use Rattle.std.proofs.lemmas.Slice.Eq.{bytes_eq-Decides}
use Rattle.rhai_base.specs.Value.{Text, Value, Fields, UnitV, IntV, TextV, ArrayV, MapV, same_text, values, no_fields, field}
use Rattle.rhai_base.specs.Operators.{text_lt}
use Rattle.theory_meaning.specs.Act.{Act}
use Rattle.theory_meaning.specs.Chains.{or_throw, index}
use Rattle.theory_meaning.specs.Elements.{count, value_at, at_index, index_in, element, entry, with_entry, with_entries}
use Rattle.theory_meaning.specs.Places.{AtIndex, Current, without_place, part}
use Rattle.theory_rewriting.specs.Indexing.{indexed}

some_value : Value → Option Value → Value
some_value v None = v
some_value v (Some w) = w

some_same : (v w : Value) → Some v ≡ Some w → v ≡ w
unfolding some_value
some_same v w h = ap (some_value v) h

-- an index of a value without a place
pub index_known : (v i u : Value) → indexed v i ≡ Some u → (next : Current → Act) → index (without_place v) v i next ≡ next (without_place u)
index_known (ArrayV vs) (IntV i) u h next = ap (λ o. or_throw (codes "array bounds") (option_map (part (without_place (ArrayV vs)) (AtIndex i)) o) next) h
index_known (TextV t) (IntV i) u h next = ap (λ o. or_throw (codes "text bounds") (option_map without_place o) next) h
index_known (IntV n) (IntV i) u h next = ap (λ o. or_throw (codes "bit bounds") (option_map without_place o) next) h
index_known (MapV fs) (TextV k) u h next = ap next (ap without_place (some_same (entry fs k) u h))
index_known v i u h next = absurd (let z : None ≡ Some u = h in cc)

-- a key's value where it is put
entry_put : (fs : Fields) (l : Text) (v : Value) (k : Text) → entry (with_entry fs l v) k ≡ cond (same_text l k) v (entry fs k)
entry_put no_fields l v k = refl
entry_put (field m u fs) l v k = by (same_text m l) (text_lt l m) refl (entry_put fs l v k) where
  other : (a b : Bool) → same_text l k ≡ a → same_text m k ≡ b → same_text m l ≡ false → cond b u (cond a v (entry fs k)) ≡ cond a v (cond b u (entry fs k))
  other true true p q r =
      absurd (let e : m ≡ l = (bytes_eq-Decides m k).0 q ∙ sym ((bytes_eq-Decides l k).0 p) in let z : true ≡ false = sym ((bytes_eq-Decides m l).1 e) ∙ r in cc)
  other true false p q r = refl
  other false true p q r = refl
  other false false p q r = refl

  equal : (a b : Bool) → same_text l k ≡ a → same_text m k ≡ b → same_text m l ≡ true → cond a v (entry fs k) ≡ cond a v (cond b u (entry fs k))
  equal true b p q r = refl
  equal false true p q r =
      absurd (let e : l ≡ k = sym ((bytes_eq-Decides m l).0 r) ∙ (bytes_eq-Decides m k).0 q in let z : true ≡ false = sym ((bytes_eq-Decides l k).1 e) ∙ p in cc)
  equal false false p q r = refl

  by : (a b : Bool) → same_text m l ≡ a → entry (with_entry fs l v) k ≡ cond (same_text l k) v (entry fs k) → entry (cond a (field l v fs) (cond b (field l v (field m u fs)) (field m u (with_entry fs l v)))) k ≡ cond (same_text l k) v (cond (same_text m k) u (entry fs k))
  by true b h ih = equal (same_text l k) (same_text m k) refl refl h
  by false true h ih = refl
  by false false h ih = ap (λ e. cond (same_text m k) u e) ih ∙ other (same_text l k) (same_text m k) refl refl h

-- the last of a key, or u
abbrev pub value_or : Value → List (Text × Value) → Text → Value
value_or u [] k = u
value_or u (p ∷ ps) k = value_or (cond (same_text p.0 k) p.1 u) ps k

entry_with : (fs : Fields) (ps : List (Text × Value)) (k : Text) → entry (with_entries fs ps) k ≡ value_or (entry fs k) ps k
entry_with fs [] k = refl
entry_with fs (p ∷ ps) k = entry_with (with_entry fs p.0 p.1) ps k ∙ ap (λ u. value_or u ps k) (entry_put fs p.0 p.1 k)

pub entry_for : (ps : List (Text × Value)) (k : Text) → entry (with_entries no_fields ps) k ≡ value_or UnitV ps k
entry_for ps k = entry_with no_fields ps k

count_values : (vs : List Value) → count (values vs) ≡ length vs
count_values [] = refl
count_values (v ∷ vs) = ap suc (count_values vs)

pub element_is : (vs : List Value) (n k : ℕ) (i : ℤ) (u : Value) → length vs ≡ n → index_in n i ≡ Some k → value_at (values vs) k ≡ Some u → element (values vs) i ≡ Some u
element_is vs n k i u p q r = ap (λ m. at_index (index_in m i) (value_at (values vs))) (count_values vs ∙ p) ∙ ap (λ o. at_index o (value_at (values vs))) q ∙ r
