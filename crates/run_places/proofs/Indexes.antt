-- What an index comes to, by the kinds of the value and of the index.
use Rattle.std.proofs.Common.{◌≡◌, ℕ, Bool, List, [], ◌∷◌, map, Some, None, Bor, refl, sym, ap, ◌∙◌}
use Rattle.std.specs.Prelude.{ℤ, codes}
use Rattle.std.specs.Option.{option_map, option_copied}
use Rattle.rhai_base.specs.declared.dynamic.Dynamic.{Dynamic}
use Rattle.rhai_base.specs.declared.dynamic.Dynamic.TheVariants as dynamic
use Rattle.rhai_base.specs.Reading.{value_of, members_of, value_of-Bool, value_of-Int, value_of-Char, value_of-Str, value_of-Array, value_of-Map, DynamicCase, int_case, str_case, array_case, map_case, dynamic_cases}
use Rattle.rhai_base.specs.Value.{Text, Value, UnitV, BoolV, IntV, CharV, TextV, ArrayV, MapV, Values, Fields, values, fields}
use Rattle.theory_meaning.specs.Act.{Act}
use Rattle.theory_meaning.specs.ActForms.{throw}
use Rattle.theory_meaning.specs.Chains.{ask_for, index, or_throw, set_by_host, set_element, set_index}
use Rattle.theory_meaning.specs.Elements.{element, character, bit}
use Rattle.theory_meaning.specs.Places as places
use Rattle.theory_meaning.specs.Places.{Place, Current, inside, part, without_place}
use Rattle.run_places.specs.declared.places.PlaceKey.TheVariants.{AtIndex, AtEntry}
use Rattle.run_places.specs.declared.steps.Indexed.TheVariants as indexed
use Rattle.run_places.specs.declared.steps.IndexTarget.TheVariants as target
use Rattle.run_places.specs.Reading.{or_unit}
use Rattle.run_places.specs.Indexing.{IsIndexed, IsIndexTarget}
use Rattle.rhai_base.proofs.OtherKinds.{NoInt, NoStr, NoItems, NoMembers}

-- ---- what a value is not

-- ---- where the host is asked

abbrev asks : Current → Value → Value → (Current → Act) → Act
asks c v i next = ask_for (codes "index$get$") v (i ∷ []) next

plain_asks : {v : Dynamic} {w : Value} → DynamicCase v w → NoItems v → NoStr v → NoInt v → NoMembers v → (i : Value) (c : Current) (next : Current → Act) → index c w i next ≡ asks c w i next
plain_asks (array_case vs) a t n m i c next = absurd (a vs refl)
plain_asks (str_case s) a t n m i c next = absurd (t s refl)
plain_asks (int_case k) a t n m i c next = absurd (n k refl)
plain_asks (map_case es) a t n m i c next = absurd (m es refl)
plain_asks _ a t n m i c next = refl

array_asks : (vs : Values) {i : Dynamic} {w : Value} → DynamicCase i w → NoInt i → (c : Current) (next : Current → Act) → index c (ArrayV vs) w next ≡ asks c (ArrayV vs) w next
array_asks vs (int_case n) h c next = absurd (h n refl)
array_asks vs _ h c next = refl

text_asks : (s : Text) {i : Dynamic} {w : Value} → DynamicCase i w → NoInt i → (c : Current) (next : Current → Act) → index c (TextV s) w next ≡ asks c (TextV s) w next
text_asks s (int_case n) h c next = absurd (h n refl)
text_asks s _ h c next = refl

int_asks : (m : ℤ) {i : Dynamic} {w : Value} → DynamicCase i w → NoInt i → (c : Current) (next : Current → Act) → index c (IntV m) w next ≡ asks c (IntV m) w next
int_asks m (int_case n) h c next = absurd (h n refl)
int_asks m _ h c next = refl

map_asks : (fs : Fields) {i : Dynamic} {w : Value} → DynamicCase i w → NoStr i → (c : Current) (next : Current → Act) → index c (MapV fs) w next ≡ asks c (MapV fs) w next
map_asks fs (str_case t) h c next = absurd (h t refl)
map_asks fs _ h c next = refl

pub asks_plain : (v i : Dynamic) → NoItems v → NoStr v → NoInt v → NoMembers v → IsIndexed (value_of v) (value_of i) (indexed.AsksHost i)
asks_plain v i a t n m c next = plain_asks (dynamic_cases v) a t n m (value_of i) c next

pub asks_array : (vs : List Dynamic) (i : Dynamic) → NoInt i → IsIndexed (value_of (dynamic.Array vs)) (value_of i) (indexed.AsksHost i)
asks_array vs i h c next = ap (λ v. index c v (value_of i) next) (value_of-Array vs) ∙ array_asks (values (map value_of vs)) (dynamic_cases i) h c next ∙ ap (λ v. asks c v (value_of i) next) (sym (value_of-Array vs))

pub asks_text : (t : Text) (i : Dynamic) → NoInt i → IsIndexed (value_of (dynamic.Str t)) (value_of i) (indexed.AsksHost i)
asks_text t i h c next = ap (λ v. index c v (value_of i) next) (value_of-Str t) ∙ text_asks t (dynamic_cases i) h c next ∙ ap (λ v. asks c v (value_of i) next) (sym (value_of-Str t))

pub asks_int : (n : ℤ) (i : Dynamic) → NoInt i → IsIndexed (value_of (dynamic.Int n)) (value_of i) (indexed.AsksHost i)
asks_int n i h c next = ap (λ v. index c v (value_of i) next) (value_of-Int n) ∙ int_asks n (dynamic_cases i) h c next ∙ ap (λ v. asks c v (value_of i) next) (sym (value_of-Int n))

pub asks_map : (es : List (Text × Dynamic)) (i : Dynamic) → NoStr i → IsIndexed (value_of (dynamic.Map es)) (value_of i) (indexed.AsksHost i)
asks_map es i h c next = ap (λ v. index c v (value_of i) next) (value_of-Map es) ∙ map_asks (fields (members_of es)) (dynamic_cases i) h c next ∙ ap (λ v. asks c v (value_of i) next) (sym (value_of-Map es))

pub asks_missing : (i : Dynamic) → IsIndexed UnitV (value_of i) (indexed.AsksHost i)
asks_missing i c next = refl

-- ---- parts

pub part_of_array : (vs : List Dynamic) (n : ℤ) (w : Bor Dynamic) → option_map value_of (option_copied (Some w)) ≡ element (values (map value_of vs)) n → IsIndexed (value_of (dynamic.Array vs)) (value_of (dynamic.Int n)) (indexed.Part (AtIndex n))
part_of_array vs n w h c next = (λ j. index c (value_of-Array vs j) (value_of-Int n j) next) ∙ ap (λ o. or_throw (codes "array bounds") (option_map (part c (places.AtIndex n)) o) next) (sym h) ∙ ap (λ o. next (part c (places.AtIndex n) (or_unit o))) h ∙ ap (λ v. next (part c (places.AtIndex n) (or_unit (inside v (places.AtIndex n))))) (sym (value_of-Array vs))

pub out_of_array : (vs : List Dynamic) (n : ℤ) (t : Bor Text) → t.now ≡ codes "array bounds" → None ≡ element (values (map value_of vs)) n → IsIndexed (value_of (dynamic.Array vs)) (value_of (dynamic.Int n)) (indexed.Throws t)
out_of_array vs n t k h c next = (λ j. index c (value_of-Array vs j) (value_of-Int n j) next) ∙ ap (λ o. or_throw (codes "array bounds") (option_map (part c (places.AtIndex n)) o) next) (sym h) ∙ ap throw (sym k)

pub character_of_text : (s : Text) (n : ℤ) (d : ℕ) → option_map CharV (Some d) ≡ character s n → IsIndexed (value_of (dynamic.Str s)) (value_of (dynamic.Int n)) (indexed.Value (dynamic.Char d))
character_of_text s n d h c next = (λ j. index c (value_of-Str s j) (value_of-Int n j) next) ∙ ap (λ o. or_throw (codes "text bounds") (option_map without_place o) next) (sym h) ∙ ap (λ v. next (without_place v)) (sym (value_of-Char d))

pub out_of_text : (s : Text) (n : ℤ) (t : Bor Text) → t.now ≡ codes "text bounds" → None ≡ character s n → IsIndexed (value_of (dynamic.Str s)) (value_of (dynamic.Int n)) (indexed.Throws t)
out_of_text s n t k h c next = (λ j. index c (value_of-Str s j) (value_of-Int n j) next) ∙ ap (λ o. or_throw (codes "text bounds") (option_map without_place o) next) (sym h) ∙ ap throw (sym k)

pub bit_of_int : (m n : ℤ) (b : Bool) → option_map BoolV (Some b) ≡ bit m n → IsIndexed (value_of (dynamic.Int m)) (value_of (dynamic.Int n)) (indexed.Value (dynamic.Bool b))
bit_of_int m n b h c next = (λ j. index c (value_of-Int m j) (value_of-Int n j) next) ∙ ap (λ o. or_throw (codes "bit bounds") (option_map without_place o) next) (sym h) ∙ ap (λ v. next (without_place v)) (sym (value_of-Bool b))

pub out_of_int : (m n : ℤ) (t : Bor Text) → t.now ≡ codes "bit bounds" → None ≡ bit m n → IsIndexed (value_of (dynamic.Int m)) (value_of (dynamic.Int n)) (indexed.Throws t)
out_of_int m n t k h c next = (λ j. index c (value_of-Int m j) (value_of-Int n j) next) ∙ ap (λ o. or_throw (codes "bit bounds") (option_map without_place o) next) (sym h) ∙ ap throw (sym k)

pub entry_of_map : (es : List (Text × Dynamic)) (k : Text) → IsIndexed (value_of (dynamic.Map es)) (value_of (dynamic.Str k)) (indexed.Part (AtEntry k))
entry_of_map es k c next = (λ j. index c (value_of-Map es j) (value_of-Str k j) next) ∙ ap (λ v. next (part c (places.AtEntry k) (or_unit (inside v (places.AtEntry k))))) (sym (value_of-Map es))

-- ---- writes

abbrev sets : Value → Current → Value → Act
sets w c i = set_by_host (codes "index$set$") (i ∷ w ∷ []) c

plain_sets : {v : Dynamic} {u : Value} → DynamicCase v u → NoItems v → NoMembers v → (i w : Value) (at : Place) (c : Current) → set_index w at c u i ≡ sets w c i
plain_sets (array_case vs) a m i w at c = absurd (a vs refl)
plain_sets (map_case es) a m i w at c = absurd (m es refl)
plain_sets _ a m i w at c = refl

array_sets : (vs : Values) {i : Dynamic} {u : Value} → DynamicCase i u → NoInt i → (w : Value) (at : Place) (c : Current) → set_index w at c (ArrayV vs) u ≡ sets w c u
array_sets vs (int_case n) h w at c = absurd (h n refl)
array_sets vs _ h w at c = refl

map_sets : (fs : Fields) {i : Dynamic} {u : Value} → DynamicCase i u → NoStr i → (w : Value) (at : Place) (c : Current) → set_index w at c (MapV fs) u ≡ sets w c u
map_sets fs (str_case t) h w at c = absurd (h t refl)
map_sets fs _ h w at c = refl

pub sets_plain : (v i : Dynamic) → NoItems v → NoMembers v → IsIndexTarget (value_of v) (value_of i) (target.AsksHost i)
sets_plain v i a m w at c = plain_sets (dynamic_cases v) a m (value_of i) w at c

pub sets_array : (vs : List Dynamic) (i : Dynamic) → NoInt i → IsIndexTarget (value_of (dynamic.Array vs)) (value_of i) (target.AsksHost i)
sets_array vs i h w at c = ap (λ v. set_index w at c v (value_of i)) (value_of-Array vs) ∙ array_sets (values (map value_of vs)) (dynamic_cases i) h w at c

pub sets_map : (es : List (Text × Dynamic)) (i : Dynamic) → NoStr i → IsIndexTarget (value_of (dynamic.Map es)) (value_of i) (target.AsksHost i)
sets_map es i h w at c = ap (λ v. set_index w at c v (value_of i)) (value_of-Map es) ∙ map_sets (fields (members_of es)) (dynamic_cases i) h w at c

pub sets_missing : (i : Dynamic) → IsIndexTarget UnitV (value_of i) (target.AsksHost i)
sets_missing i w at c = refl

pub place_in_array : (vs : List Dynamic) (n : ℤ) (x : Bor Dynamic) → option_map value_of (option_copied (Some x)) ≡ element (values (map value_of vs)) n → IsIndexTarget (value_of (dynamic.Array vs)) (value_of (dynamic.Int n)) (target.Part (AtIndex n))
place_in_array vs n x h w at c = (λ j. set_index w at c (value_of-Array vs j) (value_of-Int n j)) ∙ ap (set_element at n w) (sym h)

pub place_out_of_array : (vs : List Dynamic) (n : ℤ) (t : Bor Text) → t.now ≡ codes "array bounds" → None ≡ element (values (map value_of vs)) n → IsIndexTarget (value_of (dynamic.Array vs)) (value_of (dynamic.Int n)) (target.Throws t)
place_out_of_array vs n t k h w at c = (λ j. set_index w at c (value_of-Array vs j) (value_of-Int n j)) ∙ ap (set_element at n w) (sym h) ∙ ap throw (sym k)

pub place_in_map : (es : List (Text × Dynamic)) (k : Text) → IsIndexTarget (value_of (dynamic.Map es)) (value_of (dynamic.Str k)) (target.Part (AtEntry k))
place_in_map es k w at c = λ j. set_index w at c (value_of-Map es j) (value_of-Str k j)

pub ruleset indexes = (asks_plain, asks_array, asks_text, asks_int, asks_map, asks_missing, part_of_array, out_of_array, character_of_text, out_of_text, bit_of_int, out_of_int, entry_of_map, sets_plain, sets_array, sets_map, sets_missing, place_in_array, place_out_of_array, place_in_map)
