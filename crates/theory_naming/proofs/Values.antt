-- Values that are the same but for names.
use Rattle.std.proofs.Common.{◌≡◌, ℕ, zero, suc, ℤ, Bool, true, false, cond, ◌&&◌, ◌||◌, List, [], ◌∷◌, ◌++◌, length, map, Option, Some, None, refl, ap, subst, ◌∙◌}
use Rattle.std.specs.Prelude.{if◌then◌else◌, option_map, slice_get}
use Rattle.std.specs.Str.{chars}
use Rattle.rhai_base.specs.Value.{Text, Value, FloatV, CharV, ArrayV, MapV, Values, item, Fields, field, items, values, type_name, same, same_items, same_fields, same_text, holds_float, hold_float, fields_hold_float, is_hashable, are_hashable, fields_hashable}
use Rattle.rhai_base.specs.Operators.{text_lt}
use Rattle.std.proofs.lemmas.Bool.{and_parts}
use Rattle.theory_meaning.specs.ActForms.{truth}
use Rattle.theory_meaning.specs.Control.{holds, ranges_with, case_for, or_ranges, chosen}
use Rattle.theory_meaning.specs.Elements.{index_in, count, value_at, with_value_at, at_index, element, with_element, entry, with_entry, with_entries, character, bit}
use Rattle.theory_meaning.specs.Places.{PlaceKey, AtIndex, AtEntry, inside, along, with_inside, with_along}
use Rattle.theory_meaning.specs.Shape.{is_unit}
use Rattle.theory_meaning.specs.Tree.{IntRange, ExclusiveInt, InclusiveInt, SwitchTable, SwitchCase, SwitchRange}
use Rattle.theory_naming.specs.Naming.{OptionOf, both_none, both_some, ListOf, both_empty, both_more, Like, unit_like, bool_like, int_like, float_like, char_like, text_like, array_like, map_like, pointer_like, range_like, inclusive_like, LikeAll, none_like, item_like, LikeFields, no_fields_like, field_like, PairLike, named_like, Likes, MaybeLike}

-- ---- lists and options

pub length_kept : {A : Type 0} {R : A → A → Type 0} {xs ys : List A} → ListOf R xs ys → length xs ≡ length ys
length_kept both_empty = refl
length_kept (both_more h k) = ap suc (length_kept k)

pub append_like : {A : Type 0} {R : A → A → Type 0} {as' bs cs ds : List A} → ListOf R as' bs → ListOf R cs ds → ListOf R (as' ++ cs) (bs ++ ds)
append_like both_empty k = k
append_like (both_more h j) k = both_more h (append_like j k)

pub slice_like : {A : Type 0} {R : A → A → Type 0} {xs ys : List A} → ListOf R xs ys → (i : ℕ) → OptionOf R (slice_get xs i) (slice_get ys i)
slice_like both_empty i = both_none
slice_like (both_more h k) zero = both_some h
slice_like (both_more h k) (suc i) = slice_like k i

pub if_like : {A : Type 0} (R : A → A → Type 0) (b : Bool) {x x' y y' : A} → R x x' → R y y' → R (if b then x else y) (if b then x' else y')
if_like R true h k = h
if_like R false h k = k

pub at_same : {A B : Type 0} {R : B → B → Type 0} (o : Option A) (f g : A → Option B) → ((a : A) → OptionOf R (f a) (g a)) → OptionOf R (at_index o f) (at_index o g)
at_same None f g h = both_none
at_same (Some a) f g h = h a

pub map_same : {A B : Type 0} {R : B → B → Type 0} (o : Option A) (f g : A → B) → ((a : A) → R (f a) (g a)) → OptionOf R (option_map f o) (option_map g o)
map_same None f g h = both_none
map_same (Some a) f g h = both_some (h a)

pub at_both : {A B : Type 0} {R : A → A → Type 0} {S : B → B → Type 0} {o p : Option A} → OptionOf R o p → (f g : A → Option B) → ((a b : A) → R a b → OptionOf S (f a) (g b)) → OptionOf S (at_index o f) (at_index p g)
at_both both_none f g h = both_none
at_both (both_some k) f g h = h _ _ k

pub map_both : {A B : Type 0} {R : A → A → Type 0} {S : B → B → Type 0} {o p : Option A} → OptionOf R o p → (f g : A → B) → ((a b : A) → R a b → S (f a) (g b)) → OptionOf S (option_map f o) (option_map g p)
map_both both_none f g h = both_none
map_both (both_some k) f g h = both_some (h _ _ k)

module _ {N : Text → Text → Type 0} where
  pub type_kept : {v w : Value} → Like N v w → type_name v ≡ type_name w
  type_kept unit_like = refl
  type_kept (bool_like b) = refl
  type_kept (int_like n) = refl
  type_kept (float_like c) = refl
  type_kept (char_like c) = refl
  type_kept (text_like t) = refl
  type_kept (array_like h) = refl
  type_kept (map_like h) = refl
  type_kept (pointer_like n h) = refl
  type_kept (range_like a b) = refl
  type_kept (inclusive_like a b) = refl

  pub types_kept : {vs ws : List Value} → Likes N vs ws → map type_name vs ≡ map type_name ws
  types_kept both_empty = refl
  types_kept (both_more h k) = λ i. type_kept h i ∷ types_kept k i

  pub unit_kept : {v w : Value} → Like N v w → is_unit v ≡ is_unit w
  unit_kept unit_like = refl
  unit_kept (bool_like b) = refl
  unit_kept (int_like n) = refl
  unit_kept (float_like c) = refl
  unit_kept (char_like c) = refl
  unit_kept (text_like t) = refl
  unit_kept (array_like h) = refl
  unit_kept (map_like h) = refl
  unit_kept (pointer_like n h) = refl
  unit_kept (range_like a b) = refl
  unit_kept (inclusive_like a b) = refl

  pub truth_kept : {v w : Value} → Like N v w → truth v ≡ truth w
  truth_kept unit_like = refl
  truth_kept (bool_like b) = refl
  truth_kept (int_like n) = refl
  truth_kept (float_like c) = refl
  truth_kept (char_like c) = refl
  truth_kept (text_like t) = refl
  truth_kept (array_like h) = refl
  truth_kept (map_like h) = refl
  truth_kept (pointer_like n h) = refl
  truth_kept (range_like a b) = refl
  truth_kept (inclusive_like a b) = refl

  pub items_like : {vs ws : Values} → LikeAll N vs ws → Likes N (items vs) (items ws)
  items_like none_like = both_empty
  items_like (item_like h k) = both_more h (items_like k)

  pub values_like : {vs ws : List Value} → Likes N vs ws → LikeAll N (values vs) (values ws)
  values_like both_empty = none_like
  values_like (both_more h k) = item_like h (values_like k)

  -- ---- elements and entries

  count_kept : {vs ws : Values} → LikeAll N vs ws → count vs ≡ count ws
  count_kept none_like = refl
  count_kept (item_like h k) = ap suc (count_kept k)

  value_at_like : {vs ws : Values} → LikeAll N vs ws → (i : ℕ) → MaybeLike N (value_at vs i) (value_at ws i)
  value_at_like none_like i = both_none
  value_at_like (item_like h k) zero = both_some h
  value_at_like (item_like h k) (suc i) = value_at_like k i

  pub element_like : {vs ws : Values} → LikeAll N vs ws → (i : ℤ) → MaybeLike N (element vs i) (element ws i)
  element_like {vs = vs} {ws = ws} h i =
      subst (λ n. MaybeLike N (element vs i) (at_index (index_in n i) (value_at ws))) (count_kept h) (at_same (index_in (count vs) i) (value_at vs) (value_at ws) (λ k. value_at_like h k))

  with_value_like : {vs ws : Values} → LikeAll N vs ws → (i : ℕ) → {v w : Value} → Like N v w → LikeAll N (with_value_at vs i v) (with_value_at ws i w)
  with_value_like none_like i h = none_like
  with_value_like (item_like j k) zero h = item_like h k
  with_value_like (item_like j k) (suc i) h = item_like j (with_value_like k i h)

  with_element_like : {vs ws : Values} → LikeAll N vs ws → (i : ℤ) → {v w : Value} → Like N v w → OptionOf (LikeAll N) (with_element vs i v) (with_element ws i w)
  with_element_like {vs = vs} {ws = ws} h i {v = v} {w = w} q =
      subst (λ n. OptionOf (LikeAll N) (with_element vs i v) (option_map (λ k. with_value_at ws k w) (index_in n i))) (count_kept h) (map_same (index_in (count vs) i) (λ k. with_value_at vs k v) (λ k. with_value_at ws k w) (λ k. with_value_like h k q))

  pub entry_kept : {fs gs : Fields} → LikeFields N fs gs → (k : Text) → Like N (entry fs k) (entry gs k)
  entry_kept no_fields_like k = unit_like
  entry_kept (field_like l h r) k = if_like (Like N) (same_text l k) h (entry_kept r k)

  pub with_entry_like : {fs gs : Fields} → LikeFields N fs gs → (k : Text) → {v w : Value} → Like N v w → LikeFields N (with_entry fs k v) (with_entry gs k w)
  with_entry_like no_fields_like k h = field_like k h no_fields_like
  with_entry_like (field_like l j r) k h =
      if_like (LikeFields N) (same_text l k) (field_like k h r) (if_like (LikeFields N) (text_lt k l) (field_like k h (field_like l j r)) (field_like l j (with_entry_like r k h)))

  pub with_entries_like : {ps qs : List (Text × Value)} → ListOf (PairLike N) ps qs → {fs gs : Fields} → LikeFields N fs gs → LikeFields N (with_entries fs ps) (with_entries gs qs)
  with_entries_like both_empty h = h
  with_entries_like (both_more (named_like k j) r) h = with_entries_like r (with_entry_like h k j)

  -- ---- parts along a place

  inside_like : {v w : Value} → Like N v w → (k : PlaceKey) → MaybeLike N (inside v k) (inside w k)
  inside_like (array_like h) (AtIndex i) = element_like h i
  inside_like (array_like h) (AtEntry k) = both_none
  inside_like (map_like h) (AtIndex i) = both_none
  inside_like (map_like h) (AtEntry k) = both_some (entry_kept h k)
  inside_like unit_like k = both_none
  inside_like (bool_like b) k = both_none
  inside_like (int_like n) k = both_none
  inside_like (float_like c) k = both_none
  inside_like (char_like c) k = both_none
  inside_like (text_like t) k = both_none
  inside_like (pointer_like n h) k = both_none
  inside_like (range_like a b) k = both_none
  inside_like (inclusive_like a b) k = both_none

  pub along_like : {v w : Value} → Like N v w → (ks : List PlaceKey) → MaybeLike N (along v ks) (along w ks)
  along_like h [] = both_some h
  along_like h (k ∷ ks) = at_both (inside_like h k) _ _ (λ a b q. along_like q ks)

  with_inside_like : {v w : Value} → Like N v w → (k : PlaceKey) → {x y : Value} → Like N x y → MaybeLike N (with_inside v k x) (with_inside w k y)
  with_inside_like (array_like h) (AtIndex i) q = map_both (with_element_like h i q) ArrayV ArrayV (λ a b r. array_like r)
  with_inside_like (array_like h) (AtEntry k) q = both_none
  with_inside_like (map_like h) (AtIndex i) q = both_none
  with_inside_like (map_like h) (AtEntry k) q = both_some (map_like (with_entry_like h k q))
  with_inside_like unit_like k q = both_none
  with_inside_like (bool_like b) k q = both_none
  with_inside_like (int_like n) k q = both_none
  with_inside_like (float_like c) k q = both_none
  with_inside_like (char_like c) k q = both_none
  with_inside_like (text_like t) k q = both_none
  with_inside_like (pointer_like n h) k q = both_none
  with_inside_like (range_like a b) k q = both_none
  with_inside_like (inclusive_like a b) k q = both_none

  pub with_along_like : {v w : Value} → Like N v w → (ks : List PlaceKey) → {x y : Value} → Like N x y → MaybeLike N (with_along v ks x) (with_along w ks y)
  with_along_like h [] q = both_some q
  with_along_like h (k ∷ ks) q = at_both (inside_like h k) _ _ (λ a b r. at_both (with_along_like r ks q) _ _ (λ c d j. with_inside_like h k j))

  char_like_itself : (o : Option ℕ) → MaybeLike N (option_map CharV o) (option_map CharV o)
  char_like_itself None = both_none
  char_like_itself (Some c) = both_some (char_like c)

  pub character_like : (t : Text) (i : ℤ) → MaybeLike N (character t i) (character t i)
  unfolding character chars
  character_like t i = at_same (index_in (length (chars t)) i) (λ k. option_map CharV (slice_get (chars t) k)) (λ k. option_map CharV (slice_get (chars t) k)) (λ k. char_like_itself (slice_get (chars t) k))

  pub bit_like : (n i : ℤ) → MaybeLike N (bit n i) (bit n i)
  bit_like n i = map_same (index_in 64 i) _ _ (λ k. bool_like _)

  -- ---- what a `switch` asks

  mutual
    pub hashable_kept : {v w : Value} → Like N v w → is_hashable v ≡ is_hashable w
    hashable_kept unit_like = refl
    hashable_kept (bool_like b) = refl
    hashable_kept (int_like n) = refl
    hashable_kept (float_like c) = refl
    hashable_kept (char_like c) = refl
    hashable_kept (text_like t) = refl
    hashable_kept (array_like h) = hashable_all h
    hashable_kept (map_like h) = hashable_fields h
    hashable_kept (pointer_like n h) = refl
    hashable_kept (range_like a b) = refl
    hashable_kept (inclusive_like a b) = refl

    hashable_all : {vs ws : Values} → LikeAll N vs ws → are_hashable vs ≡ are_hashable ws
    hashable_all none_like = refl
    hashable_all (item_like h k) = λ i. hashable_kept h i && hashable_all k i

    hashable_fields : {fs gs : Fields} → LikeFields N fs gs → fields_hashable fs ≡ fields_hashable gs
    hashable_fields no_fields_like = refl
    hashable_fields (field_like k h r) = λ i. hashable_kept h i && hashable_fields r i

  mutual
    pub float_kept : {v w : Value} → Like N v w → holds_float v ≡ holds_float w
    float_kept unit_like = refl
    float_kept (bool_like b) = refl
    float_kept (int_like n) = refl
    float_kept (float_like x) = refl
    float_kept (char_like c) = refl
    float_kept (text_like t) = refl
    float_kept (array_like h) = float_all h
    float_kept (map_like h) = float_fields h
    float_kept (pointer_like n h) = refl
    float_kept (range_like a b) = refl
    float_kept (inclusive_like a b) = refl

    float_all : {vs ws : Values} → LikeAll N vs ws → hold_float vs ≡ hold_float ws
    float_all none_like = refl
    float_all (item_like h k) = λ i. float_kept h i || float_all k i

    float_fields : {fs gs : Fields} → LikeFields N fs gs → fields_hold_float fs ≡ fields_hold_float gs
    float_fields no_fields_like = refl
    float_fields (field_like k h r) = λ i. float_kept h i || float_fields r i

  -- what holds no pointer is as it was
  mutual
    pub hashable_equal : {v w : Value} → Like N v w → is_hashable v ≡ true → v ≡ w
    hashable_equal unit_like q = refl
    hashable_equal (bool_like b) q = refl
    hashable_equal (int_like n) q = refl
    hashable_equal (float_like c) q = refl
    hashable_equal (char_like c) q = refl
    hashable_equal (text_like t) q = refl
    hashable_equal (array_like h) q = ap ArrayV (all_equal h q)
    hashable_equal (map_like h) q = ap MapV (fields_equal h q)
    hashable_equal (pointer_like n h) q = absurd (cc)
    hashable_equal (range_like a b) q = refl
    hashable_equal (inclusive_like a b) q = refl

    all_equal : {vs ws : Values} → LikeAll N vs ws → are_hashable vs ≡ true → vs ≡ ws
    all_equal none_like q = refl
    all_equal (item_like h k) q = λ i. item (hashable_equal h (and_parts _ _ q).0 i) (all_equal k (and_parts _ _ q).1 i)

    fields_equal : {fs gs : Fields} → LikeFields N fs gs → fields_hashable fs ≡ true → fs ≡ gs
    fields_equal no_fields_like q = refl
    fields_equal (field_like k h r) q = λ i. field k (hashable_equal h (and_parts _ _ q).0 i) (fields_equal r (and_parts _ _ q).1 i)

  holds_kept : (r : IntRange) {v w : Value} → Like N v w → holds r v ≡ holds r w
  holds_kept (ExclusiveInt a b) (int_like n) = refl
  holds_kept (InclusiveInt a b) (int_like n) = refl
  holds_kept r unit_like = refl
  holds_kept r (bool_like b) = refl
  holds_kept (ExclusiveInt a b) (float_like x) = refl
  holds_kept (InclusiveInt a b) (float_like x) = refl
  holds_kept r (char_like c) = refl
  holds_kept r (text_like t) = refl
  holds_kept (ExclusiveInt a b) (array_like h) = refl
  holds_kept (InclusiveInt a b) (array_like h) = refl
  holds_kept (ExclusiveInt a b) (map_like h) = refl
  holds_kept (InclusiveInt a b) (map_like h) = refl
  holds_kept (ExclusiveInt a b) (pointer_like n h) = refl
  holds_kept (InclusiveInt a b) (pointer_like n h) = refl
  holds_kept r (range_like a b) = refl
  holds_kept r (inclusive_like a b) = refl

  ranges_kept : (rs : List SwitchRange) {v w : Value} → Like N v w → ranges_with rs v ≡ ranges_with rs w
  ranges_kept [] h = refl
  ranges_kept (r ∷ rs) h = λ i. cond (holds_kept r.range h i) (r.arm ∷ ranges_kept rs h i) (ranges_kept rs h i)

  cases_kept : (b : Bool) (ls : List SwitchCase) {v w : Value} → is_hashable v ≡ b → Like N v w → cond b (case_for ls v) None ≡ cond b (case_for ls w) None
  cases_kept true ls q h = ap (case_for ls) (hashable_equal h q)
  cases_kept false ls q h = refl

  or_kept : (t : SwitchTable) (o : Option (List ℕ)) {v w : Value} → Like N v w → or_ranges t v o ≡ or_ranges t w o
  or_kept t (Some is) h = refl
  or_kept t None h = ranges_kept t.ranges h

  pub chosen_kept : (t : SwitchTable) {v w : Value} → Like N v w → chosen t v ≡ chosen t w
  chosen_kept t {v = v} {w = w} h =
      ap (or_ranges t v) (cases_kept (is_hashable v) t.cases refl h ∙ ap (λ b. cond b (case_for t.cases w) None) (hashable_kept h))
      ∙ or_kept t (cond (is_hashable w) (case_for t.cases w) None) h

  -- ---- equality, where names stand for each other one to one

  module _ (one : (f f' g g' : Text) → N f f' → N g g' → same_text f g ≡ same_text f' g') where
    mutual
      pub same_kept : {v v' w w' : Value} → Like N v v' → Like N w w' → same v w ≡ same v' w'
      same_kept (array_like h) (array_like k) = same_all h k
      same_kept (map_like h) (map_like k) = same_maps h k
      same_kept (pointer_like n h) (pointer_like m k) = λ i. one _ _ _ _ n m i && same_all h k i
      same_kept unit_like unit_like = refl
      same_kept (bool_like a) (bool_like b) = refl
      same_kept (int_like a) (int_like b) = refl
      same_kept (float_like a) (float_like b) = refl
      same_kept (char_like a) (char_like b) = refl
      same_kept (text_like a) (text_like b) = refl
      same_kept (range_like a b) (range_like c d) = refl
      same_kept (inclusive_like a b) (inclusive_like c d) = refl
      same_kept _ _ = refl

      same_all : {vs vs' ws ws' : Values} → LikeAll N vs vs' → LikeAll N ws ws' → same_items vs ws ≡ same_items vs' ws'
      same_all none_like none_like = refl
      same_all none_like (item_like h k) = refl
      same_all (item_like h k) none_like = refl
      same_all (item_like h k) (item_like j l) = λ i. same_kept h j i && same_all k l i

      same_maps : {fs fs' gs gs' : Fields} → LikeFields N fs fs' → LikeFields N gs gs' → same_fields fs gs ≡ same_fields fs' gs'
      same_maps no_fields_like no_fields_like = refl
      same_maps no_fields_like (field_like k h r) = refl
      same_maps (field_like k h r) no_fields_like = refl
      same_maps (field_like k h r) (field_like l j s) = λ i. same_text k l && same_kept h j i && same_maps r s i
