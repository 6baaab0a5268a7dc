-- Lists of names as sets: those that differ, and those that are the same names.
use Rattle.std.proofs.Common.{◌≡◌, ℕ, zero, suc, ◌+◌, ◌<◌, ◌≤◌, ◌==◌, Bool, true, false, not, ◌&&◌, ◌||◌, List, [], ◌∷◌, ◌++◌, length, get_or, take, map, refl, sym, ap, ◌∙◌, subst, arith}
use Rattle.std.proofs.lemmas.Cmp.{nat_list_eq_equiv}
use Rattle.std.proofs.lemmas.Bool.Decides.{nat_tests}
use Rattle.std.proofs.lemmas.List.{get_or-map, length-map, take_all, take_more}
use Rattle.std.proofs.lemmas.List.Folds.{list_any_at}
use Rattle.std.proofs.lemmas.List.Sorted.{IsPermutation-map, IsPermutation-push_more, IsPermutation-refl, list_any-IsPermutation}
use Rattle.std.proofs.lemmas.Map.Keys.{IsDistinct-cons, IsDistinct-from_sorted, IsDistinct-head, IsDistinct-push, IsDistinct-tail}
use Rattle.std.proofs.lemmas.Map.Made.{length-le_from_is_member}
use Rattle.std.proofs.lemmas.Map.Steps.{list_any_congr}
use Rattle.std.proofs.lemmas.Map.Text.{is_eq-slice_cmp}
use Rattle.std.specs.Borrow.{Bor}
use Rattle.std.specs.Cmp.Lexicographic.{slice_cmp}
use Rattle.std.specs.HashSet.{HashSet, PutsKey}
use Rattle.std.specs.List.{AllByRecursion, IsDistinct, list_any}
use Rattle.std.specs.List.Sorted.{IsPermutation, IsStrictlySortedBy}
use Rattle.std.specs.Ordering.{nat_cmp, eq_by_cmp}
use Rattle.base_tokens.specs.Names.{is_among}
use Rattle.base_tokens.specs.declared.ident.Ident.{Ident}
use Rattle.ast_types.specs.declared.expr.Expr.{Expr}
use Rattle.rhai_base.specs.declared.dynamic.Dynamic.{Dynamic}
use Rattle.rhai_base.specs.Value.{Text, same_text}
use Rattle.theory_meaning.specs.Shape.{are_among, are_distinct}
use Rattle.ast_types.specs.Reading.{keys_of}
use Rattle.rhai_ast.specs.MapKeys.{names_of, texts_of}

-- ---- tests by one another

same : (a b : Bool) → (a ≡ true → b ≡ true) → (b ≡ true → a ≡ true) → a ≡ b
same true b h k = sym (h refl)
same false true h k = k refl
same false false h k = refl

both_true : (a b : Bool) → a ≡ true → b ≡ true → (a && b) ≡ true
both_true true b h k = k
both_true false b h k = h

each_true : (a b : Bool) → (a && b) ≡ true → (a ≡ true) × (b ≡ true)
each_true true b h = (refl, h)
each_true false b h = absurd (let z : false ≡ true = h in cc)

neither : (a b : Bool) → (a || b) ≡ false → (a ≡ false) × (b ≡ false)
neither true b h = absurd (let z : true ≡ false = h in cc)
neither false b h = (refl, h)

-- ---- the names of a list

abbrev has : List Text → Text → Bool
has xs t = list_any (same_text t) xs

abbrev IsWithin : List Text → List Text → Type 0
IsWithin xs ys = (t : Text) → has xs t ≡ true → has ys t ≡ true

is_among-has : (t : Text) (xs : List Text) → is_among t xs ≡ has xs t
is_among-has t [] = refl
is_among-has t (x ∷ xs) = ap (λ b. b || is_among t xs) (nat_list_eq_equiv.symm x t) ∙ ap (λ b. same_text t x || b) (is_among-has t xs)

within-tail : (x : Text) (xs ys : List Text) → IsWithin (x ∷ xs) ys → IsWithin xs ys
within-tail x xs ys h t k = h t (later (same_text t x)) where
  later : (b : Bool) → (b || has xs t) ≡ true
  later true = refl
  later false = k

within-head : (x : Text) (xs ys : List Text) → IsWithin (x ∷ xs) ys → has ys x ≡ true
within-head x xs ys h = h x (ap (λ b. b || has xs x) (nat_list_eq_equiv.refl x))

among-from_within : (xs ys : List Text) → IsWithin xs ys → are_among xs ys ≡ true
among-from_within [] ys h = refl
among-from_within (x ∷ xs) ys h =
    both_true (is_among x ys) (are_among xs ys) (is_among-has x ys ∙ within-head x xs ys h) (among-from_within xs ys (within-tail x xs ys h))

-- one name more
within-cons : (x : Text) (xs ys : List Text) → has ys x ≡ true → IsWithin xs ys → IsWithin (x ∷ xs) ys
within-cons x xs ys h k t = by (same_text t x) refl where
  by : (b : Bool) → same_text t x ≡ b → (b || has xs t) ≡ true → has ys t ≡ true
  by true e q = list_any_congr nat_list_eq_equiv t x ys e ∙ h
  by false e q = k t q

within-from_among : (xs ys : List Text) → are_among xs ys ≡ true → IsWithin xs ys
within-from_among [] ys h = λ t k. absurd (let z : false ≡ true = k in cc)
within-from_among (x ∷ xs) ys h =
    let parts = each_true (is_among x ys) (are_among xs ys) h in
    within-cons x xs ys (sym (is_among-has x ys) ∙ parts.0) (within-from_among xs ys parts.1)

abbrev pub are_same : List Text → List Text → Bool
are_same xs ys = are_among xs ys && are_among ys xs

-- two lists of the same names
pub is_among-same : (t : Text) (xs ys : List Text) → are_same xs ys ≡ true → is_among t xs ≡ is_among t ys
is_among-same t xs ys h =
    let parts = each_true (are_among xs ys) (are_among ys xs) h in
    is_among-has t xs ∙ same (has xs t) (has ys t) (within-from_among xs ys parts.0 t) (within-from_among ys xs parts.1 t) ∙ sym (is_among-has t ys)

-- the order does not matter
pub are_same-permutation : (xs ys zs : List Text) → IsPermutation xs ys → are_same ys zs ≡ are_same xs zs
are_same-permutation xs ys zs p =
    let e = λ (t : Text). list_any-IsPermutation (same_text t) xs ys p in
    same (are_same ys zs) (are_same xs zs)
    (λ h.
    let parts = each_true (are_among ys zs) (are_among zs ys) h in
    both_true (are_among xs zs) (are_among zs xs)
    (among-from_within xs zs (λ t k. within-from_among ys zs parts.0 t (sym (e t) ∙ k)))
    (among-from_within zs xs (λ t k. e t ∙ within-from_among zs ys parts.1 t k)))
    (λ h.
    let parts = each_true (are_among xs zs) (are_among zs xs) h in
    both_true (are_among ys zs) (are_among zs ys)
    (among-from_within ys zs (λ t k. within-from_among xs zs parts.0 t (e t ∙ k)))
    (among-from_within zs ys (λ t k. sym (e t) ∙ within-from_among zs xs parts.1 t k)))

-- ---- names that differ

none_same : (t : Text) (xs : List Text) → has xs t ≡ false → AllByRecursion (λ x. same_text t x ≡ false) xs
none_same t [] h = tt
none_same t (x ∷ xs) h =
    let parts = neither (same_text t x) (has xs t) h in
    (parts.0, none_same t xs parts.1)

none_has : (t : Text) (xs : List Text) → AllByRecursion (λ x. same_text t x ≡ false) xs → has xs t ≡ false
none_has t [] h = refl
none_has t (x ∷ xs) h = ap (λ b. b || has xs t) h.0 ∙ none_has t xs h.1

-- so many that differ, all among as many: the same
within-from_length : (xs ys : List Text) → IsDistinct same_text ys → IsWithin ys xs → length xs ≡ length ys → IsWithin xs ys
within-from_length xs ys apart within e t k = by (has ys t) refl where
  by : (b : Bool) → has ys t ≡ b → has ys t ≡ true
  by true h = h
  by false h =
      let below = length-le_from_is_member nat_list_eq_equiv (t ∷ ys) xs (IsDistinct-cons same_text t ys (none_same t ys h) apart) (within-cons t ys xs k within) in
      absurd (omega (arith, below))

pub are_same-by_length : (xs ys : List Text) → IsDistinct same_text xs → IsDistinct same_text ys → (length xs == length ys && are_among ys xs) ≡ are_same xs ys
are_same-by_length xs ys h k =
    same (length xs == length ys && are_among ys xs) (are_same xs ys)
    (λ q.
    let parts = each_true (length xs == length ys) (are_among ys xs) q in
    let e : length xs ≡ length ys = grind (arith, nat_tests) in
    both_true (are_among xs ys) (are_among ys xs) (among-from_within xs ys (within-from_length xs ys k (within-from_among ys xs parts.1) e)) parts.1)
    (λ q.
    let parts = each_true (are_among xs ys) (are_among ys xs) q in
    let below = length-le_from_is_member nat_list_eq_equiv xs ys h (within-from_among xs ys parts.0) in
    let above = length-le_from_is_member nat_list_eq_equiv ys xs k (within-from_among ys xs parts.1) in
    both_true (length xs == length ys) (are_among ys xs) (grind (arith, nat_tests)) parts.1)

pub are_distinct-from_apart : (xs : List Text) → IsDistinct same_text xs → are_distinct xs ≡ true
are_distinct-from_apart [] h = refl
are_distinct-from_apart (x ∷ xs) h =
    both_true (not (is_among x xs)) (are_distinct xs)
    (ap not (is_among-has x xs ∙ none_has x xs (IsDistinct-head same_text x xs h)))
    (are_distinct-from_apart xs (IsDistinct-tail same_text x xs h))

pub apart-from_distinct : (xs : List Text) → are_distinct xs ≡ true → IsDistinct same_text xs
unfolding IsDistinct
apart-from_distinct [] h = tt
apart-from_distinct (x ∷ xs) h =
    let parts = each_true (not (is_among x xs)) (are_distinct xs) h in
    IsDistinct-cons same_text x xs (none_same x xs (sym (is_among-has x xs) ∙ untrue (is_among x xs) parts.0)) (apart-from_distinct xs parts.1) where
      untrue : (b : Bool) → not b ≡ true → b ≡ false
      untrue true z = absurd (let y : false ≡ true = z in cc)
      untrue false z = refl

-- a name that stands before too
pub are_distinct-twice : (xs : List Text) (i : ℕ) → i < length xs → has (take i xs) (get_or xs i []) ≡ true → are_distinct xs ≡ false
are_distinct-twice [] i h k = absurd (omega arith)
are_distinct-twice (x ∷ xs) zero h k = absurd (let z : false ≡ true = k in cc)
are_distinct-twice (x ∷ xs) (suc i) h k =
    let t = get_or xs i [] in
    let inside : i < length xs = omega arith in
    by t (same_text t x) refl (list_any_at (same_text t) xs i [] inside (nat_list_eq_equiv.refl t)) (are_distinct-twice xs i inside) k where
      by : (t : Text) (b : Bool) → same_text t x ≡ b → has xs t ≡ true → (has (take i xs) t ≡ true → are_distinct xs ≡ false) → (b || has (take i xs) t) ≡ true → (not (is_among x xs) && are_distinct xs) ≡ false
      by t true e here rest q = ap (λ b. not b && are_distinct xs) (is_among-has x xs ∙ sym (list_any_congr nat_list_eq_equiv t x xs e) ∙ here)
      by t false e here rest q = last (not (is_among x xs)) (are_distinct xs) (rest q) where
        last : (a b : Bool) → b ≡ false → (a && b) ≡ false
        last true b z = z
        last false b z = refl

-- the keys of a map differ
pub apart-from_sorted : (xs : List Text) → IsStrictlySortedBy (slice_cmp nat_cmp) xs → IsDistinct same_text xs
unfolding IsDistinct
apart-from_sorted xs h = apart xs (IsDistinct-from_sorted (slice_cmp nat_cmp) xs h) where
  none : (x : Text) (ys : List Text) → AllByRecursion (λ y. eq_by_cmp (slice_cmp nat_cmp) x y ≡ false) ys → AllByRecursion (λ y. same_text x y ≡ false) ys
  none x [] k = tt
  none x (y ∷ ys) k = (sym (is_eq-slice_cmp x y) ∙ k.0, none x ys k.1)

  apart : (ys : List Text) → IsDistinct (eq_by_cmp (slice_cmp nat_cmp)) ys → IsDistinct same_text ys
  apart [] k = tt
  apart (y ∷ ys) k = (none y ys k.0, apart ys k.1)

-- ---- a set of names

pub texts_apart : {S : Type 0} (s : HashSet (Bor Text) S) → IsDistinct (λ x y. same_text x.now y.now) s.keys → IsDistinct same_text (texts_of s)
unfolding IsDistinct
texts_apart s h = apart s.keys h where
  none : (x : Bor Text) (ys : List (Bor Text)) → AllByRecursion (λ y. same_text x.now y.now ≡ false) ys → AllByRecursion (λ t. same_text x.now t ≡ false) (map (λ k. k.now) ys)
  none x [] k = tt
  none x (y ∷ ys) k = (k.0, none x ys k.1)

  apart : (ys : List (Bor Text)) → IsDistinct (λ x y. same_text x.now y.now) ys → IsDistinct same_text (map (λ k. k.now) ys)
  apart [] k = tt
  apart (y ∷ ys) k = (none y ys k.0, apart ys k.1)

has-texts : (t : Text) (ys : List (Bor Text)) → list_any (λ y. same_text t y.now) ys ≡ has (map (λ k. k.now) ys) t
has-texts t [] = refl
has-texts t (y ∷ ys) = ap (λ b. same_text t y.now || b) (has-texts t ys)

-- a name is looked up
pub is_among-texts : {S : Type 0} (s : HashSet (Bor Text) S) (t : Text) → list_any (λ y. same_text t y.now) s.keys ≡ is_among t (texts_of s)
is_among-texts s t = has-texts t s.keys ∙ sym (is_among-has t (texts_of s))

-- ---- the members of a literal, one after the other

names_of-map : (ms : List (Ident × Expr)) → names_of ms ≡ map (λ m. m.0.name) ms
names_of-map [] = refl
names_of-map (m ∷ ms) = ap (λ ts. m.0.name ∷ ts) (names_of-map ms)

pub length-names_of : (ms : List (Ident × Expr)) → length (names_of ms) ≡ length ms
length-names_of [] = refl
length-names_of (m ∷ ms) = ap suc (length-names_of ms)

pub get_or-names_of : (ms : List (Ident × Expr)) (i : ℕ) (d : Ident × Expr) → i < length ms → get_or (names_of ms) i [] ≡ (get_or ms i d).0.name
get_or-names_of ms i d h = ap (λ ts. get_or ts i []) (names_of-map ms) ∙ get_or-map (λ m. m.0.name) ms i d [] h

-- so many names have come, each of them new
pub record NamesSoFar {S : Type 0} (xs : List Text) (i : ℕ) (s : HashSet (Bor Text) S) : Type 0 where
  pub apart : IsDistinct same_text (take i xs)
  pub these : IsPermutation (take i xs) (texts_of s)

pub names_so_far-none : {S : Type 0} (xs : List Text) (s : HashSet (Bor Text) S) → s.keys ≡ [] → NamesSoFar xs 0 s
unfolding IsDistinct
names_so_far-none xs s h = record {
  apart = tt;
  these = subst (λ ks. IsPermutation [] (map (λ k. k.now) ks)) (sym h) (IsPermutation-refl []);
}

-- what an insertion tells
pub names_so_far-more : {S : Type 0} (xs : List Text) (i : ℕ) (k : Bor Text) (old new : HashSet (Bor Text) S) (added : Bool) → i < length xs → k.now ≡ get_or xs i [] → NamesSoFar xs i old → added ≡ not (list_any (λ y. same_text k.now y.now) old.keys) → PutsKey old new k added → added ≡ true → NamesSoFar xs (i + 1) new
names_so_far-more xs i k old new false h e r fresh put came = absurd (let z : false ≡ true = came in cc)
names_so_far-more xs i k old new true h e r fresh put came =
    let more : take i xs ++ k.now ∷ [] ≡ take (i + 1) xs = ap (λ t. take i xs ++ t ∷ []) e ∙ sym (take_more xs i [] h) in
    let is_new : has (take i xs) k.now ≡ false = list_any-IsPermutation (same_text k.now) (take i xs) (texts_of old) r.these ∙ sym (has-texts k.now old.keys) ∙ untrue (list_any (λ y. same_text k.now y.now) old.keys) (sym fresh) in record {
      apart = subst (IsDistinct same_text) more (IsDistinct-push nat_list_eq_equiv (take i xs) k.now r.apart is_new);
      these = subst (λ ts. IsPermutation ts (texts_of new)) more (IsPermutation-push_more (take i xs) (texts_of old) (texts_of new) k.now r.these (IsPermutation-map (λ b. b.now) (k ∷ old.keys) new.keys put));
    } where
      untrue : (b : Bool) → not b ≡ true → b ≡ false
      untrue true z = absurd (let y : false ≡ true = z in cc)
      untrue false z = refl

-- a name that the set has came before
pub names_so_far-twice : {S : Type 0} (xs : List Text) (i : ℕ) (k : Bor Text) (s : HashSet (Bor Text) S) (added : Bool) → i < length xs → k.now ≡ get_or xs i [] → NamesSoFar xs i s → added ≡ not (list_any (λ y. same_text k.now y.now) s.keys) → added ≡ false → are_distinct xs ≡ false
names_so_far-twice xs i k s added h e r fresh stayed =
    are_distinct-twice xs i h
    (ap (has (take i xs)) (sym e) ∙ list_any-IsPermutation (same_text k.now) (take i xs) (texts_of s) r.these ∙ sym (has-texts k.now s.keys) ∙ untrue (list_any (λ y. same_text k.now y.now) s.keys) (sym fresh ∙ stayed)) where
      untrue : (b : Bool) → not b ≡ false → b ≡ true
      untrue true z = refl
      untrue false z = absurd (let y : true ≡ false = z in cc)

-- all names have come
pub names_so_far-all : {S : Type 0} (xs : List Text) (i : ℕ) (s : HashSet (Bor Text) S) → length xs ≤ i → NamesSoFar xs i s → (are_distinct xs ≡ true) × IsPermutation xs (texts_of s)
names_so_far-all xs i s h r =
    let all : take i xs ≡ xs = take_all i xs h in
    (are_distinct-from_apart xs (subst (IsDistinct same_text) all r.apart), subst (λ ts. IsPermutation ts (texts_of s)) all r.these)

-- a set and a map that have the same names
pub are_same-by_count : {S : Type 0} (s : HashSet (Bor Text) S) (es : List (Text × Dynamic)) (m n : ℕ) → IsDistinct (λ x y. same_text x.now y.now) s.keys → IsStrictlySortedBy (slice_cmp nat_cmp) (keys_of es) → m ≡ length s.keys → n ≡ length es → (m == n && are_among (keys_of es) (texts_of s)) ≡ are_same (texts_of s) (keys_of es)
are_same-by_count s es m n unique ordered h k =
    let e : (m == n) ≡ (length (texts_of s) == length (keys_of es)) = ap (λ i. i == n) (h ∙ sym (length-map s.keys (λ k. k.now))) ∙ ap (λ i. length (texts_of s) == i) (k ∙ sym (length-map es (λ e. e.0))) in
    ap (λ b. b && are_among (keys_of es) (texts_of s)) e ∙ are_same-by_length (texts_of s) (keys_of es) (texts_apart s unique) (apart-from_sorted (keys_of es) ordered)

-- members whose names differ, and a map, that have the same names
pub are_same-of_members : (ms : List (Ident × Expr)) (es : List (Text × Dynamic)) (m n : ℕ) → are_distinct (names_of ms) ≡ true → IsStrictlySortedBy (slice_cmp nat_cmp) (keys_of es) → m ≡ length ms → n ≡ length es → (m == n && are_among (keys_of es) (names_of ms)) ≡ are_same (names_of ms) (keys_of es)
are_same-of_members ms es m n apart ordered h k =
    let e : (m == n) ≡ (length (names_of ms) == length (keys_of es)) = ap (λ i. i == n) (h ∙ sym (length-names_of ms)) ∙ ap (λ i. length (names_of ms) == i) (k ∙ sym (length-map es (λ e. e.0))) in
    ap (λ b. b && are_among (keys_of es) (names_of ms)) e ∙ are_same-by_length (names_of ms) (keys_of es) (apart-from_distinct (names_of ms) apart) (apart-from_sorted (keys_of es) ordered)

pub and_false : (a b : Bool) → a ≡ false → a ≡ (a && b)
and_false true b h = absurd (let z : true ≡ false = h in cc)
and_false false b h = refl
