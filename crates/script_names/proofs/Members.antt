-- Members of maps, one after another.
use Rattle.std.proofs.Common.{◌≡◌, List, [], ◌∷◌, ◌++◌, map, nat_cmp, refl, sym, ap, ◌∙◌, subst}
use Rattle.std.specs.BTreeMap.{insert_entry}
use Rattle.std.specs.Cmp.Lexicographic.{slice_cmp}
use Rattle.std.specs.List.Sorted.{IsStrictlySortedBy}
use Rattle.std.specs.Map.{keys_of}
use Rattle.std.proofs.lemmas.List.{append-nil, map-append}
use Rattle.base_text.proofs.Sorted.{insert_last}
use Rattle.rhai_base.specs.declared.dynamic.Dynamic.{Dynamic}
use Rattle.rhai_base.specs.Reading.{members_of, value_of}
use Rattle.rhai_base.specs.Value.{Text, Value, field, fields}
use Rattle.theory_naming.specs.Renaming.{renamed_value, renamed_fields}

abbrev pub Members : Type 0
Members = List (Text × Dynamic)

abbrev InOrder : List Text → Type 0
InOrder ks = IsStrictlySortedBy (slice_cmp nat_cmp) ks

keys_meant : (es : Members) → map (λ p. p.0) (members_of es) ≡ keys_of es
keys_meant [] = refl
keys_meant (e ∷ es) = ap (λ ks. e.0 ∷ ks) (keys_meant es)

module _ (named : Text → Text) where
  -- what a member becomes
  abbrev pub new_member : Text × Dynamic → Text × Value
  new_member e = (e.0, renamed_value named (value_of e.1))

  members_listed : (es : Members) → fields (map new_member es) ≡ renamed_fields named (fields (members_of es))
  members_listed [] = refl
  members_listed (e ∷ es) = ap (field e.0 (renamed_value named (value_of e.1))) (members_listed es)

  new_keys : (es : Members) → map (λ p. p.0) (map new_member es) ≡ keys_of es
  new_keys [] = refl
  new_keys (e ∷ es) = ap (λ ks. e.0 ∷ ks) (new_keys es)

  keys_append : (es fs : Members) → keys_of (es ++ fs) ≡ keys_of es ++ keys_of fs
  keys_append [] fs = refl
  keys_append (e ∷ es) fs = ap (λ ks. e.0 ∷ ks) (keys_append es fs)

  -- what was made of those before has their keys
  made_keys : (made done left : Members) → members_of made ≡ map new_member done → keys_of (made ++ left) ≡ keys_of (done ++ left)
  made_keys made done left h =
      keys_append made left ∙ ap (λ ks. ks ++ keys_of left) (sym (keys_meant made) ∙ ap (map (λ p. p.0)) h ∙ new_keys done) ∙ sym (keys_append done left)

  -- one more of them goes last
  pub one_more_member : (made after done left all : Members) (e : Text × Dynamic) (v : Dynamic)
      → InOrder (keys_of all) → all ≡ done ++ e ∷ left → members_of made ≡ map new_member done
      → after ≡ insert_entry (slice_cmp nat_cmp) made e.0 v → value_of v ≡ renamed_value named (value_of e.1)
      → members_of after ≡ map new_member (done ++ e ∷ [])
  one_more_member made after done left all e v order whole before inserted new =
      let ordered : InOrder (keys_of (made ++ (e.0, v) ∷ left)) =
      subst InOrder (ap keys_of whole ∙ sym (made_keys made done (e ∷ left) before) ∙ keys_append made (e ∷ left) ∙ sym (keys_append made ((e.0, v) ∷ left))) order in
      ap members_of (inserted ∙ insert_last made (e.0, v) left ordered)
      ∙ map-append (λ p. (p.0, value_of p.1)) made ((e.0, v) ∷ [])
      ∙ (λ i. before i ++ (e.0, new i) ∷ [])
      ∙ sym (map-append new_member done (e ∷ []))

  pub members_made : (made done left all : Members) → left ≡ [] → all ≡ done ++ left → members_of made ≡ map new_member done
      → fields (members_of made) ≡ renamed_fields named (fields (members_of all))
  members_made made done left all none whole h =
      ap fields h ∙ members_listed done ∙ ap (λ es. renamed_fields named (fields (members_of es))) (sym (append-nil done) ∙ ap (λ l. done ++ l) (sym none) ∙ sym whole)
