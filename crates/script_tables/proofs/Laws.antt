-- Laws of tables, for those who make one of another.
use Rattle.std.proofs.Common.{◌≡◌, Bool, true, false, not, List, [], ◌∷◌, ◌++◌, map, refl, sym, ap, ◌∙◌, if◌then◌else◌, append_assoc}
use Rattle.std.proofs.lemmas.Bool.{and_parts, and_from, or_parts, or_from, not-true, both_ways, false_from_ne_true}
use Rattle.std.proofs.lemmas.List.{append-nil}
use Rattle.std.specs.List.{items_where_true}
use Rattle.theory_meaning.specs.Act.{Key}
use Rattle.theory_meaning.specs.Calls.{same_key, has_key}
use Rattle.script_tables.specs.Table.{put_by, put_all_by, are_distinct}
use Rattle.script_tables.proofs.Keys.{same_key-true}

other_way : (k l : Key) → same_key k l ≡ false → same_key l k ≡ false
other_way k l h = false_from_ne_true (same_key l k) (λ e. let one = same_key-true l k e in both_ways (same_key k l) h ((λ i. same_key (sym one i) (one i)) ∙ e))

module _ {F : Type 0} (key_of : F → Key) where
  -- a function of a new key goes last
  put-last : (fs : List F) (f : F) → has_key (map key_of fs) (key_of f) ≡ false → put_by key_of fs f ≡ fs ++ f ∷ []
  put-last [] f h = refl
  put-last (g ∷ gs) f h =
      let parts = or_parts (same_key (key_of g) (key_of f)) (has_key (map key_of gs) (key_of f)) h in
      ap (λ b. if b then f ∷ gs else g ∷ put_by key_of gs f) (other_way (key_of g) (key_of f) parts.0) ∙ ap (λ l. g ∷ l) (put-last gs f parts.1)

  unlike-inner : (gs : List F) (f : F) (fs : List F) (k : Key) → has_key (map key_of (gs ++ f ∷ fs)) k ≡ false → same_key (key_of f) k ≡ false
  unlike-inner [] f fs k h = (or_parts (same_key (key_of f) k) (has_key (map key_of fs) k) h).0
  unlike-inner (g ∷ gs) f fs k h = unlike-inner gs f fs k (or_parts (same_key (key_of g) k) (has_key (map key_of (gs ++ f ∷ fs)) k) h).1

  -- where the keys are distinct, no earlier one is that of a later one
  new-inner : (gs : List F) (f : F) (fs : List F) → are_distinct (map key_of (gs ++ f ∷ fs)) ≡ true → has_key (map key_of gs) (key_of f) ≡ false
  new-inner [] f fs h = refl
  new-inner (g ∷ gs) f fs h =
      let parts = and_parts (not (has_key (map key_of (gs ++ f ∷ fs)) (key_of g))) (are_distinct (map key_of (gs ++ f ∷ fs))) h in
      let unlike = other_way (key_of f) (key_of g) (unlike-inner gs f fs (key_of g) (not-true (has_key (map key_of (gs ++ f ∷ fs)) (key_of g)) parts.0)) in
      or_from (same_key (key_of g) (key_of f)) (has_key (map key_of gs) (key_of f)) unlike (new-inner gs f fs parts.1)

  -- functions of distinct keys are their own table
  pub own_table : (fs : List F) → are_distinct (map key_of fs) ≡ true → put_all_by key_of [] fs ≡ fs
  own_table fs h = from [] fs h
    where
      from : (gs fs : List F) → are_distinct (map key_of (gs ++ fs)) ≡ true → put_all_by key_of gs fs ≡ gs ++ fs
      from gs [] h = sym (append-nil gs)
      from gs (f ∷ fs) h =
          ap (λ table. put_all_by key_of table fs) (put-last gs f (new-inner gs f fs h))
          ∙ from (gs ++ f ∷ []) fs (ap (λ l. are_distinct (map key_of l)) (append_assoc gs (f ∷ []) fs) ∙ h)
          ∙ append_assoc gs (f ∷ []) fs

  has_key-chosen : (bs : List Bool) (fs : List F) (k : Key) → has_key (map key_of fs) k ≡ false → has_key (map key_of (items_where_true bs fs)) k ≡ false
  has_key-chosen [] fs k h = refl
  has_key-chosen (b ∷ bs) [] k h = refl
  has_key-chosen (true ∷ bs) (f ∷ fs) k h =
      let parts = or_parts (same_key (key_of f) k) (has_key (map key_of fs) k) h in
      or_from (same_key (key_of f) k) (has_key (map key_of (items_where_true bs fs)) k) parts.0 (has_key-chosen bs fs k parts.1)
  has_key-chosen (false ∷ bs) (f ∷ fs) k h = has_key-chosen bs fs k (or_parts (same_key (key_of f) k) (has_key (map key_of fs) k) h).1

  -- what is chosen of distinct keys is distinct
  pub are_distinct-chosen : (bs : List Bool) (fs : List F) → are_distinct (map key_of fs) ≡ true → are_distinct (map key_of (items_where_true bs fs)) ≡ true
  are_distinct-chosen [] fs h = refl
  are_distinct-chosen (b ∷ bs) [] h = refl
  are_distinct-chosen (true ∷ bs) (f ∷ fs) h =
      let parts = and_parts (not (has_key (map key_of fs) (key_of f))) (are_distinct (map key_of fs)) h in
      and_from (not (has_key (map key_of (items_where_true bs fs)) (key_of f))) (are_distinct (map key_of (items_where_true bs fs)))
      (ap not (has_key-chosen bs fs (key_of f) (not-true (has_key (map key_of fs) (key_of f)) parts.0)))
      (are_distinct-chosen bs fs parts.1)
  are_distinct-chosen (false ∷ bs) (f ∷ fs) h = are_distinct-chosen bs fs (and_parts (not (has_key (map key_of fs) (key_of f))) (are_distinct (map key_of fs)) h).1
