-- Entries put into a map one after another, and the fields that they stand for.
use Rattle.std.proofs.Common.{◌≡◌, ℕ, ◌&&◌, ◌||◌, ◌==◌, List, [], ◌∷◌, nat_lt, nat_cmp, refl, sym, ap, ◌∙◌, arith}
use Rattle.std.specs.declared.cmp.Ordering.{Ordering}
use Rattle.std.specs.declared.cmp.Ordering.TheVariants as order
use Rattle.std.specs.Ordering.{is_eq, is_lt, match_ordering, ordering_then, ordering_reverse}
use Rattle.std.specs.Cmp.Lexicographic.{slice_cmp}
use Rattle.std.specs.BTreeMap.{insert_entry}
use Rattle.std.proofs.lemmas.Bool.Decides.{nat_tests}
use Rattle.std.proofs.lemmas.Cmp.{nat_list_cmp_total}
use Rattle.std.proofs.lemmas.Map.Lookups.{exact_bytes}
use Rattle.std.proofs.lemmas.Map.Text.{is_eq-slice_cmp}
use Rattle.rhai_base.specs.declared.dynamic.Dynamic.{Dynamic}
use Rattle.rhai_base.specs.Value.{Text, field, fields, same_text}
use Rattle.rhai_base.specs.Reading.{value_of, members_of}
use Rattle.rhai_base.specs.Operators.{text_lt}
use Rattle.theory_meaning.specs.Elements.{with_entry}

first_decides : (c d : ℕ) (o : Ordering) → (nat_lt c d || (c == d && is_lt o)) ≡ is_lt (ordering_then (nat_cmp c d) o)
first_decides c d o = grind (arith, nat_tests)

text_lt_is : (a b : Text) → text_lt a b ≡ is_lt (slice_cmp nat_cmp a b)
text_lt_is [] [] = refl
text_lt_is [] (d ∷ ds) = refl
text_lt_is (c ∷ cs) [] = refl
text_lt_is (c ∷ cs) (d ∷ ds) = rw (text_lt_is cs ds) (first_decides c d (slice_cmp nat_cmp cs ds))

same_text_is : (o : Ordering) (k l : Text) → slice_cmp nat_cmp k l ≡ o → same_text l k ≡ is_eq (ordering_reverse o)
same_text_is o k l h = sym (is_eq-slice_cmp l k) ∙ ap is_eq (nat_list_cmp_total.antisymm l k ∙ ap ordering_reverse h)

before_is : (o : Ordering) (k l : Text) → slice_cmp nat_cmp k l ≡ o → text_lt k l ≡ is_lt o
before_is o k l h = text_lt_is k l ∙ ap is_lt h

-- an entry against the first one of a map
inserted : (o : Ordering) (e : Text × Dynamic) (es more : List (Text × Dynamic)) (k : Text) (v : Dynamic) → slice_cmp nat_cmp k e.0 ≡ o
    → fields (members_of more) ≡ with_entry (fields (members_of es)) k (value_of v)
    → fields (members_of (match_ordering o ((k, v) ∷ e ∷ es) ((e.0, v) ∷ es) (e ∷ more))) ≡ with_entry (fields (members_of (e ∷ es))) k (value_of v)
inserted order.Less e es more k v h rest = rw (same_text_is order.Less k e.0 h, before_is order.Less k e.0 h) refl
inserted order.Equal e es more k v h rest = rw (same_text_is order.Equal k e.0 h) (ap (λ l. field l (value_of v) (fields (members_of es))) (sym (exact_bytes k e.0 h)))
inserted order.Greater e es more k v h rest = rw (same_text_is order.Greater k e.0 h, before_is order.Greater k e.0 h) (ap (field e.0 (value_of e.1)) rest)

pub insert_is : (es : List (Text × Dynamic)) (k : Text) (v : Dynamic) → fields (members_of (insert_entry (slice_cmp nat_cmp) es k v)) ≡ with_entry (fields (members_of es)) k (value_of v)
insert_is [] k v = refl
insert_is (e ∷ es) k v = inserted (slice_cmp nat_cmp k e.0) e es (insert_entry (slice_cmp nat_cmp) es k v) k v refl (insert_is es k v)
