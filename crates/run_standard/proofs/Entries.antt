-- Maps and their entries.
use Rattle.std.proofs.Common.{◌≡◌, suc, length, map, append_assoc, Bool, true, false, List, [], ◌∷◌, ◌++◌, Some, Less, Greater, nat_cmp, refl, sym, ap, ◌∙◌}
use Rattle.std.specs.Prelude.{if◌then◌else◌, ◌||◌}
use Rattle.std.specs.Option.{is_some}
use Rattle.std.specs.Cmp.Lexicographic.{slice_cmp}
use Rattle.std.specs.List.{AllByRecursion}
use Rattle.std.specs.List.Sorted.{IsStrictlySortedBy}
use Rattle.std.specs.Map.{keys_of, lookup}
use Rattle.std.specs.Ordering.{ordering_reverse}
use Rattle.std.specs.BTreeMap.{insert_entry, is_at}
use Rattle.std.proofs.lemmas.Cmp.{nat_list_cmp_total}
use Rattle.std.proofs.lemmas.List.{length-map, map-append, append-nil}
use Rattle.rhai_base.specs.declared.dynamic.Dynamic.{Dynamic}
use Rattle.rhai_base.specs.declared.dynamic.Dynamic.TheVariants as dynamic
use Rattle.rhai_base.specs.Reading.{value_of, members_of, value_of-Str}
use Rattle.rhai_base.specs.Value.{Text, field, fields, same_text}
use Rattle.theory_meaning.specs.Elements.{with_entry}
use Rattle.run_places.proofs.Parts.{is_at-same, entry_some, entry_none}
use Rattle.run_places.proofs.AlongKeys.{with_entry-insert}
use Rattle.run_standard.specs.Maps.{keys_in, values_in, has_entry, without_entry, merged}

pub has-lookup : (es : List (Text × Dynamic)) (k : Text) → has_entry (fields (members_of es)) k ≡ is_some (lookup (is_at (slice_cmp nat_cmp k)) es)
has-lookup [] k = refl
has-lookup (e ∷ es) k = by (is_at (slice_cmp nat_cmp k) e.0) (same_text e.0 k) (is_at-same k e.0) (has-lookup es k) where
  by : (b c : Bool) → b ≡ c → has_entry (fields (members_of es)) k ≡ is_some (lookup (is_at (slice_cmp nat_cmp k)) es) → (c || has_entry (fields (members_of es)) k) ≡ is_some (if b then Some e.1 else lookup (is_at (slice_cmp nat_cmp k)) es)
  by true true h q = refl
  by false false h q = q
  by true false h q = cc
  by false true h q = cc

-- the entries of other keys
abbrev pub others_of : Text → List (Text × Dynamic) → List (Text × Dynamic)
others_of k [] = []
others_of k (e ∷ es) = if same_text e.0 k then others_of k es else e ∷ others_of k es

pub others-fields : (k : Text) (es : List (Text × Dynamic)) → fields (members_of (others_of k es)) ≡ without_entry (fields (members_of es)) k
others-fields k [] = refl
others-fields k (e ∷ es) = by (same_text e.0 k) (others-fields k es) where
  by : (b : Bool) → fields (members_of (others_of k es)) ≡ without_entry (fields (members_of es)) k
      → fields (members_of (if b then others_of k es else e ∷ others_of k es)) ≡ (if b then without_entry (fields (members_of es)) k else field e.0 (value_of e.1) (without_entry (fields (members_of es)) k))
  by true q = q
  by false q = ap (field e.0 (value_of e.1)) q

below_middle : (k : Text) (es : List (Text × Dynamic)) (e : Text × Dynamic) (more : List (Text × Dynamic))
    → AllByRecursion (λ y. slice_cmp nat_cmp k y ≡ Less) (keys_of (es ++ e ∷ more)) → slice_cmp nat_cmp k e.0 ≡ Less
below_middle k [] e more h = h.0
below_middle k (x ∷ es) e more h = below_middle k es e more h.1

-- an entry behind those before it, of which some are left out
pub others_last : (k : Text) (done : List (Text × Dynamic)) (e : Text × Dynamic) (more : List (Text × Dynamic))
    → IsStrictlySortedBy (slice_cmp nat_cmp) (keys_of (done ++ e ∷ more))
    → insert_entry (slice_cmp nat_cmp) (others_of k done) e.0 e.1 ≡ others_of k done ++ e ∷ []
unfolding IsStrictlySortedBy
others_last k [] e more h = refl
others_last k (first ∷ done) e more h = by (same_text first.0 k) (others_last k done e more h.1) where
  above : slice_cmp nat_cmp e.0 first.0 ≡ Greater
  above = nat_list_cmp_total.antisymm e.0 first.0 ∙ ap ordering_reverse (below_middle first.0 done e more h.0)

  by : (b : Bool) → insert_entry (slice_cmp nat_cmp) (others_of k done) e.0 e.1 ≡ others_of k done ++ e ∷ []
      → insert_entry (slice_cmp nat_cmp) (if b then others_of k done else first ∷ others_of k done) e.0 e.1 ≡ (if b then others_of k done else first ∷ others_of k done) ++ e ∷ []
  by true q = q
  by false q = rw above (ap (λ l. first ∷ l) q)

pub others-append : (k : Text) (xs : List (Text × Dynamic)) (e : Text × Dynamic) → others_of k (xs ++ e ∷ []) ≡ others_of k xs ++ others_of k (e ∷ [])
others-append k [] e = refl
others-append k (x ∷ xs) e = by (same_text x.0 k) (others-append k xs e) where
  by : (b : Bool) → others_of k (xs ++ e ∷ []) ≡ others_of k xs ++ others_of k (e ∷ [])
      → (if b then others_of k (xs ++ e ∷ []) else x ∷ others_of k (xs ++ e ∷ [])) ≡ (if b then others_of k xs else x ∷ others_of k xs) ++ others_of k (e ∷ [])
  by true q = q
  by false q = ap (λ l. x ∷ l) q

pub others-step : (k : Text) (done : List (Text × Dynamic)) (e : Text × Dynamic) (more : List (Text × Dynamic))
    → IsStrictlySortedBy (slice_cmp nat_cmp) (keys_of (done ++ e ∷ more))
    → (if same_text e.0 k then others_of k done else insert_entry (slice_cmp nat_cmp) (others_of k done) e.0 e.1) ≡ others_of k (done ++ e ∷ [])
others-step k done e more h = by (same_text e.0 k) ∙ sym (others-append k done e) where
  by : (b : Bool) → (if b then others_of k done else insert_entry (slice_cmp nat_cmp) (others_of k done) e.0 e.1) ≡ others_of k done ++ (if b then [] else e ∷ [])
  by true = sym (append-nil (others_of k done))
  by false = others_last k done e more h

-- ---- how many there are

pub keys-length : (es : List (Text × Dynamic)) → length (keys_in (fields (members_of es))) ≡ length es
keys-length [] = refl
keys-length (e ∷ es) = ap suc (keys-length es)

pub keys-counted : (ks : List Dynamic) (es : List (Text × Dynamic)) → map value_of ks ≡ keys_in (fields (members_of es)) → length ks ≡ length (keys_in (fields (members_of es)))
keys-counted ks es h = sym (length-map ks value_of) ∙ ap length h

-- ---- steps over entries

pub keys-step : (ks : List Dynamic) (k : Text) (v : Dynamic) (more left : List (Text × Dynamic)) → more ≡ (k, v) ∷ left
    → map value_of (ks ++ dynamic.Str k ∷ []) ++ keys_in (fields (members_of left)) ≡ map value_of ks ++ keys_in (fields (members_of more))
keys-step ks k v more left e = rw (e, map-append, append_assoc, value_of-Str) refl

pub values-step : (vs : List Dynamic) (k : Text) (v : Dynamic) (more left : List (Text × Dynamic)) → more ≡ (k, v) ∷ left
    → map value_of (vs ++ v ∷ []) ++ values_in (fields (members_of left)) ≡ map value_of vs ++ values_in (fields (members_of more))
values-step vs k v more left e = rw (e, map-append, append_assoc) refl

pub insert-fields : (es : List (Text × Dynamic)) (k : Text) (x : Dynamic) → fields (members_of (insert_entry (slice_cmp nat_cmp) es k x)) ≡ with_entry (fields (members_of es)) k (value_of x)
insert-fields es k x = sym (with_entry-insert es k x)

pub merged-step : (es more left : List (Text × Dynamic)) (k : Text) (v : Dynamic) → more ≡ (k, v) ∷ left
    → merged (fields (members_of (insert_entry (slice_cmp nat_cmp) es k v))) (fields (members_of left)) ≡ merged (fields (members_of es)) (fields (members_of more))
merged-step es more left k v e = rw e (ap (λ fs. merged fs (fields (members_of left))) (insert-fields es k v))

pub ruleset entries = (keys-length, has-lookup, others-fields, entry_some, entry_none, insert-fields)
