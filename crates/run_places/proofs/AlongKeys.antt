-- Parts along keys, and their replacement.
use Rattle.std.proofs.Common.{◌≡◌, ℕ, zero, suc, ◌<◌, Bool, true, false, cond, List, [], ◌∷◌, length, map, get_or, set, Option, Some, None, Ordering, Less, Equal, Greater, refl, sym, ap, ◌∙◌, arith}
use Rattle.std.specs.Prelude.{ℤ, if◌then◌else◌}
use Rattle.std.specs.BTreeMap.{insert_entry, is_at}
use Rattle.std.specs.Cmp.Lexicographic.{slice_cmp, nat_list_cmp_total}
use Rattle.std.specs.List.{AllByRecursion}
use Rattle.std.specs.List.Sorted.{IsStrictlySortedBy}
use Rattle.std.specs.Map.{keys_of, lookup, set_value}
use Rattle.std.specs.Option.{option_map}
use Rattle.std.specs.Ordering.{is_eq, is_lt, match_ordering, nat_cmp}
use Rattle.std.proofs.lemmas.Bool.Decides.{nat_tests}
use Rattle.std.proofs.lemmas.Cmp.{same_from_slice_cmp}
use Rattle.std.proofs.lemmas.Map.Steps.{set_value_same}
use Rattle.std.proofs.lemmas.Map.Text.{is_eq-slice_cmp}
use Rattle.std.proofs.lemmas.Slice.Eq.{bytes_eq-Decides}
use Rattle.rhai_base.specs.declared.dynamic.Dynamic.{Dynamic}
use Rattle.rhai_base.specs.Reading.{value_of, members_of, DynamicCase, array_case, map_case, dynamic_cases}
use Rattle.rhai_base.specs.Value.{Text, Value, UnitV, ArrayV, MapV, item, Fields, values, fields, field, same_text}
use Rattle.rhai_base.specs.Operators.{text_lt}
use Rattle.theory_meaning.specs.Elements.{at_index, index_in, entry, with_value_at, with_element, with_entry}
use Rattle.theory_meaning.specs.Places.{PlaceKey, AtIndex, AtEntry, inside, along, with_inside, with_along}
use Rattle.run_places.proofs.Parts.{index_in-values, is_at-same, element_at, entry_some, entry_none, element_none}
use Rattle.rhai_base.proofs.OtherKinds.{NoItems, NoMembers}

-- ---- one step

no_element : {v : Dynamic} {w : Value} → DynamicCase v w → NoItems v → (i : ℤ) → inside w (AtIndex i) ≡ None
no_element (array_case vs) h i = absurd (h vs refl)
no_element _ h i = refl

pub inside-no_array : (v : Dynamic) (i : ℤ) → NoItems v → inside (value_of v) (AtIndex i) ≡ None
inside-no_array v i h = no_element (dynamic_cases v) h i

no_entry : {v : Dynamic} {w : Value} → DynamicCase v w → NoMembers v → (k : Text) → inside w (AtEntry k) ≡ None
no_entry (map_case es) h k = absurd (h es refl)
no_entry _ h k = refl

pub inside-no_map : (v : Dynamic) (k : Text) → NoMembers v → inside (value_of v) (AtEntry k) ≡ None
inside-no_map v k h = no_entry (dynamic_cases v) h k

pub unit_is_whole : (j : PlaceKey) → inside UnitV j ≡ None
unit_is_whole (AtIndex i) = refl
unit_is_whole (AtEntry k) = refl

-- ---- along keys

pub along_step : (v u : Value) (k : PlaceKey) (ks : List PlaceKey) → inside v k ≡ Some u → along v (k ∷ ks) ≡ along u ks
along_step v u k ks h = ap (λ o. at_index o (λ w. along w ks)) h

pub along_stop : (v : Value) (k : PlaceKey) (ks : List PlaceKey) → inside v k ≡ None → along v (k ∷ ks) ≡ None
along_stop v k ks h = ap (λ o. at_index o (λ w. along w ks)) h

pub along_unit : (k : PlaceKey) (ks : List PlaceKey) → along UnitV (k ∷ ks) ≡ None
along_unit k ks = along_stop UnitV k ks (unit_is_whole k)

pub with_along_stop : (v w : Value) (k : PlaceKey) (ks : List PlaceKey) → inside v k ≡ None → with_along v (k ∷ ks) w ≡ None
with_along_stop v w k ks h = ap (λ o. at_index o (λ u. at_index (with_along u ks w) (λ u'. with_inside v k u'))) h

-- what is no value is none
pub none_by : {A : Type 0} (o : Option A) → ((a : A) → o ≡ Some a → ⊥) → o ≡ None
none_by None h = refl
none_by (Some a) h = absurd (h a refl)

-- ---- elements

with_value_at-values : (xs : List Dynamic) (k : ℕ) (x : Dynamic) → with_value_at (values (map value_of xs)) k (value_of x) ≡ values (map value_of (set xs k x))
with_value_at-values [] k x = refl
with_value_at-values (y ∷ xs) zero x = refl
with_value_at-values (y ∷ xs) (suc k) x = ap (item (value_of y)) (with_value_at-values xs k x)

with_element-values : (xs : List Dynamic) (i : ℤ) (k : ℕ) (x : Dynamic) → index_in (length xs) i ≡ Some k → with_element (values (map value_of xs)) i (value_of x) ≡ Some (values (map value_of (set xs k x)))
with_element-values xs i k x h = ap (option_map (λ j. with_value_at (values (map value_of xs)) j (value_of x))) (index_in-values xs i ∙ h) ∙ ap Some (with_value_at-values xs k x)

-- an element's place, by what became of the element
module _ (xs : List Dynamic) (i : ℤ) (ks : List PlaceKey) (w : Value) where
  abbrev array : Value
  array = ArrayV (values (map value_of xs))

  pub no_element_written : index_in (length xs) i ≡ None → with_along array (AtIndex i ∷ ks) w ≡ None
  no_element_written h = with_along_stop array w (AtIndex i) ks (element_none xs i h)

  module _ (k : ℕ) (x x' : Dynamic) (h : index_in (length xs) i ≡ Some k) (l : k < length xs) (e : x ≡ get_or xs k x) where
    abbrev array' : Value
    array' = ArrayV (values (map value_of (set xs k x')))

    element_after : (o : Option Value) → with_along (value_of x) ks w ≡ o → with_along array (AtIndex i ∷ ks) w ≡ at_index o (λ u'. with_inside array (AtIndex i) u')
    element_after o q = ap (λ p. at_index p (λ u. at_index (with_along u ks w) (λ u'. with_inside array (AtIndex i) u'))) (element_at xs i k x h l e) ∙ ap (λ p. at_index p (λ u'. with_inside array (AtIndex i) u')) q

    pub element_written : (done : Bool) → with_along (value_of x) ks w ≡ (if done then Some (value_of x') else None) → with_along array (AtIndex i ∷ ks) w ≡ (if done then Some array' else None)
    element_written true q = element_after (Some (value_of x')) q ∙ ap (option_map ArrayV) (with_element-values xs i k x' h)
    element_written false q = element_after None q

-- ---- entries

text_lt-is : (k l : Text) (o : Ordering) → o ≡ slice_cmp nat_cmp k l → is_lt o ≡ text_lt k l
text_lt-is = same_from_slice_cmp nat_cmp is_lt text_lt refl (λ _ _. refl) (λ _ _. refl) (λ x y xs ys o h. grind (arith, nat_tests))

same_key : (k l : Text) → slice_cmp nat_cmp k l ≡ Equal → k ≡ l
same_key k l h = (bytes_eq-Decides k l).0 (sym (is_eq-slice_cmp k l) ∙ ap is_eq h)

-- an entry is put by how its key compares to the first one
with_entry_by : (l : Text) (v : Value) (fs : Fields) (k : Text) (w : Value) (o : Ordering) → slice_cmp nat_cmp k l ≡ o → with_entry (field l v fs) k w ≡ (if is_eq o then field k w fs else (if is_lt o then field k w (field l v fs) else field l v (with_entry fs k w)))
with_entry_by l v fs k w o h =
    let same : same_text l k ≡ is_eq o = sym (is_at-same k l) ∙ ap is_eq h in
    let below : text_lt k l ≡ is_lt o = sym (text_lt-is k l o (sym h)) in
    λ j. if same j then field k w fs else (if below j then field k w (field l v fs) else field l v (with_entry fs k w))

abbrev insert_at : List (Text × Dynamic) → Text → Dynamic → List (Text × Dynamic)
insert_at es k x = insert_entry (slice_cmp nat_cmp) es k x

abbrev value_under : Text → List (Text × Dynamic) → Option Dynamic
value_under k es = lookup (is_at (slice_cmp nat_cmp k)) es

abbrev replaced_at : List (Text × Dynamic) → Text → Dynamic → List (Text × Dynamic)
replaced_at es k x = set_value (is_at (slice_cmp nat_cmp k)) es x

inserted_by : (e : Text × Dynamic) (es : List (Text × Dynamic)) (k : Text) (x : Dynamic) (o : Ordering) → slice_cmp nat_cmp k e.0 ≡ o → with_entry (fields (members_of es)) k (value_of x) ≡ fields (members_of (insert_at es k x)) → with_entry (fields (members_of (e ∷ es))) k (value_of x) ≡ fields (members_of (match_ordering o ((k, x) ∷ e ∷ es) ((e.0, x) ∷ es) (e ∷ insert_at es k x)))
inserted_by e es k x Less h q = with_entry_by e.0 (value_of e.1) (fields (members_of es)) k (value_of x) Less h
inserted_by e es k x Equal h q = with_entry_by e.0 (value_of e.1) (fields (members_of es)) k (value_of x) Equal h ∙ ap (λ l. field l (value_of x) (fields (members_of es))) (same_key k e.0 h)
inserted_by e es k x Greater h q = with_entry_by e.0 (value_of e.1) (fields (members_of es)) k (value_of x) Greater h ∙ ap (field e.0 (value_of e.1)) q

pub with_entry-insert : (es : List (Text × Dynamic)) (k : Text) (x : Dynamic) → with_entry (fields (members_of es)) k (value_of x) ≡ fields (members_of (insert_at es k x))
with_entry-insert [] k x = refl
with_entry-insert (e ∷ es) k x = inserted_by e es k x (slice_cmp nat_cmp k e.0) refl (with_entry-insert es k x)

-- below all keys there is none
all_below : (k l : Text) (ls : List Text) → slice_cmp nat_cmp k l ≡ Less → AllByRecursion (λ y. slice_cmp nat_cmp l y ≡ Less) ls → AllByRecursion (λ y. slice_cmp nat_cmp k y ≡ Less) ls
all_below k l [] h a = a
all_below k l (y ∷ ls) h a = (nat_list_cmp_total.trans k l y h a.0, all_below k l ls h a.1)

absent_below : (k : Text) (es : List (Text × Dynamic)) → AllByRecursion (λ y. slice_cmp nat_cmp k y ≡ Less) (keys_of es) → value_under k es ≡ None
absent_below k [] a = refl
absent_below k (e ∷ es) a = ap (λ o. cond (is_eq o) (Some e.1) (value_under k es)) a.0 ∙ absent_below k es a.1

abbrev Ordered : List (Text × Dynamic) → Type 0
Ordered es = IsStrictlySortedBy (slice_cmp nat_cmp) (keys_of es)

replaced_by : (e : Text × Dynamic) (es : List (Text × Dynamic)) (k : Text) (x y : Dynamic) (o : Ordering) → slice_cmp nat_cmp k e.0 ≡ o → Ordered (e ∷ es) → cond (is_eq o) (Some e.1) (value_under k es) ≡ Some y → (Ordered es → value_under k es ≡ Some y → with_entry (fields (members_of es)) k (value_of x) ≡ fields (members_of (replaced_at es k x))) → with_entry (fields (members_of (e ∷ es))) k (value_of x) ≡ fields (members_of (cond (is_eq o) ((e.0, x) ∷ es) (e ∷ replaced_at es k x)))
unfolding IsStrictlySortedBy
replaced_by e es k x y Less h s f q = let none : value_under k es ≡ None = absent_below k es (all_below k e.0 (keys_of es) h s.0) in absurd (cc)
replaced_by e es k x y Equal h s f q = with_entry_by e.0 (value_of e.1) (fields (members_of es)) k (value_of x) Equal h ∙ ap (λ l. field l (value_of x) (fields (members_of es))) (same_key k e.0 h)
replaced_by e es k x y Greater h s f q = with_entry_by e.0 (value_of e.1) (fields (members_of es)) k (value_of x) Greater h ∙ ap (field e.0 (value_of e.1)) (q s.1 f)

with_entry-replaced : (es : List (Text × Dynamic)) (k : Text) (x y : Dynamic) → Ordered es → value_under k es ≡ Some y → with_entry (fields (members_of es)) k (value_of x) ≡ fields (members_of (replaced_at es k x))
with_entry-replaced [] k x y s f = cc
with_entry-replaced (e ∷ es) k x y s f = replaced_by e es k x y (slice_cmp nat_cmp k e.0) refl s f (with_entry-replaced es k x y)

unit_unwritten : (w : Value) (ks : List PlaceKey) → 0 < length ks → with_along UnitV ks w ≡ None
unit_unwritten w [] l = absurd (omega arith)
unit_unwritten w (j ∷ js) l = with_along_stop UnitV w j js (unit_is_whole j)

ends_there : (v w : Value) (ks : List PlaceKey) → length ks ≡ 0 → with_along v ks w ≡ Some w
ends_there v w [] e = refl
ends_there v w (j ∷ js) e = absurd (omega arith)

-- an entry's place, by what became of the entry
module _ (es : List (Text × Dynamic)) (k : Text) (ks : List PlaceKey) (w : Value) where
  abbrev members : Value
  members = MapV (fields (members_of es))

  entry_after : (v : Value) (o : Option Value) → entry (fields (members_of es)) k ≡ v → with_along v ks w ≡ o → with_along members (AtEntry k ∷ ks) w ≡ at_index o (λ u'. with_inside members (AtEntry k) u')
  entry_after v o f q = ap (λ u. at_index (with_along u ks w) (λ u'. with_inside members (AtEntry k) u')) f ∙ ap (λ p. at_index p (λ u'. with_inside members (AtEntry k) u')) q

  module _ (x x' : Dynamic) (s : Ordered es) (f : value_under k es ≡ Some x) where
    pub entry_written : (done : Bool) → with_along (value_of x) ks w ≡ (if done then Some (value_of x') else None) → with_along members (AtEntry k ∷ ks) w ≡ (if done then Some (MapV (fields (members_of (replaced_at es k x')))) else None)
    entry_written true q = entry_after (value_of x) (Some (value_of x')) (entry_some es k x f) q ∙ ap (λ fs. Some (MapV fs)) (with_entry-replaced es k x' x s f)
    entry_written false q = entry_after (value_of x) None (entry_some es k x f) q

    pub entry_kept : x' ≡ x → replaced_at es k x' ≡ es
    entry_kept q = ap (replaced_at es k) q ∙ set_value_same (is_at (slice_cmp nat_cmp k)) es x f

  -- unit has no parts
  pub no_entry_written : (0 < length ks) → value_under k es ≡ None → with_along members (AtEntry k ∷ ks) w ≡ None
  no_entry_written l f = entry_after UnitV None (entry_none es k f) (unit_unwritten w ks l)

  pub entry_added : (x : Dynamic) → value_of x ≡ w → length ks ≡ 0 → with_along members (AtEntry k ∷ ks) w ≡ Some (MapV (fields (members_of (insert_at es k x))))
  entry_added x v e = entry_after (entry (fields (members_of es)) k) (Some w) refl (ends_there (entry (fields (members_of es)) k) w ks e) ∙ ap (λ u. Some (MapV (with_entry (fields (members_of es)) k u))) (sym v) ∙ ap (λ fs. Some (MapV fs)) (with_entry-insert es k x)

pub ruleset along_keys = (unit_is_whole, along_step, along_stop, along_unit, with_along_stop, inside-no_array, inside-no_map)
