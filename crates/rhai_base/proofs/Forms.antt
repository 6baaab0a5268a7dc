-- The items of an array, written one after another.
use Rattle.std.proofs.Common.{◌≡◌, ℕ, ℤ, Bool, ◌+◌, ◌<◌, List, [], ◌∷◌, ◌++◌, codes, length, get_or, drop, map, refl, sym, ap, ◌∙◌, false, true, add-one, append_assoc}
use Rattle.std.proofs.Math.Seq.{drop-cons}
use Rattle.rhai_base.specs.declared.dynamic.Dynamic.{Dynamic}
use Rattle.rhai_base.specs.Value.{Text, Values, no_values, item, values, Fields, no_fields, field, fields, form, form_items, form_fields, MapV, PointerV}
use Rattle.rhai_base.specs.declared.dynamic.Dynamic.TheVariants as dynamic
use Rattle.std.specs.Fmt.{signed_decimal}
use Rattle.rhai_base.specs.Reading.{value_of, value_of-Range, value_of-RangeInclusive, members_of}

-- values that come after what is written so far, the first of them after a separator
abbrev after : Bool → Text → Values → Text
after full separator no_values = []
after full separator (item v vs) = separator ++ form full v ++ form_items full false vs

abbrev pub items_after : Bool → Text → List Dynamic → Text
items_after full separator xs = after full separator (values (map value_of xs))

after_comma : (full : Bool) (vs : Values) → after full (codes ", ") vs ≡ form_items full false vs
unfolding form_items
after_comma full no_values = refl
after_comma full (item v vs) = refl

-- the ends of a range, as they are written
pub range_written : (full : Bool) (x : Dynamic) (a b : ℤ) → x ≡ dynamic.Range a b → signed_decimal a ++ (codes ".." ++ signed_decimal b) ≡ form full (value_of x)
unfolding form
range_written full x a b e = sym (append_assoc (signed_decimal a) (codes "..") (signed_decimal b)) ∙ ap (form full) (sym (ap value_of e ∙ value_of-Range a b))

pub range_inclusive_written : (full : Bool) (x : Dynamic) (a b : ℤ) → x ≡ dynamic.RangeInclusive a b → signed_decimal a ++ (codes "..=" ++ signed_decimal b) ≡ form full (value_of x)
unfolding form
range_inclusive_written full x a b e = sym (append_assoc (signed_decimal a) (codes "..=") (signed_decimal b)) ∙ ap (form full) (sym (ap value_of e ∙ value_of-RangeInclusive a b))

-- one item after what is written so far
pub item_written : (full : Bool) (old separator all : Text) (xs : List Dynamic) (i : ℕ) (x : Dynamic) → i < length xs → x ≡ get_or xs i x
    → old ++ items_after full separator (drop i xs) ≡ all → ((old ++ separator) ++ form full (value_of x)) ++ items_after full (codes ", ") (drop (i + 1) xs) ≡ all
item_written full old separator all xs i x h at so_far =
    let ys = drop (i + 1) xs in
    let more = form_items full false (values (map value_of ys)) in
    let this = form full (value_of x) in
    let next : drop i xs ≡ x ∷ ys = drop-cons xs i x h ∙ (λ k. sym at k ∷ ap (λ j. drop j xs) (sym (add-one i)) k) in
    ap (λ b. ((old ++ separator) ++ this) ++ b) (after_comma full (values (map value_of ys)))
    ∙ ap (λ b. b ++ more) (append_assoc old separator this) ∙ append_assoc old (separator ++ this) more
    ∙ ap (λ zs. old ++ items_after full separator zs) (sym next) ∙ so_far

-- ---- the members of a map

-- members that come after what is written so far, the first of them after a separator
abbrev after_members : Bool → Text → Fields → Text
after_members full separator no_fields = []
after_members full separator (field k v fs) = separator ++ codes "\"" ++ k ++ codes "\": " ++ form full v ++ form_fields full false fs

abbrev pub members_after : Bool → Text → List (Text × Dynamic) → Text
members_after full separator es = after_members full separator (fields (members_of es))

members_after_comma : (full : Bool) (fs : Fields) → after_members full (codes ", ") fs ≡ form_fields full false fs
unfolding form_fields
members_after_comma full no_fields = refl
members_after_comma full (field k v fs) = refl

member_joined : (old separator quote k colon this more : Text)
    → ((old ++ (separator ++ (quote ++ (k ++ colon)))) ++ this) ++ more ≡ old ++ (((((separator ++ quote) ++ k) ++ colon) ++ this) ++ more)
member_joined old separator quote k colon this more = simp append_assoc

-- one member after what is written so far
pub member_written : (full : Bool) (old separator all : Text) (e : Text × Dynamic) (left : List (Text × Dynamic)) → old ++ members_after full separator (e ∷ left) ≡ all
    → ((old ++ (separator ++ (codes "\"" ++ (e.0 ++ codes "\": ")))) ++ form full (value_of e.1)) ++ members_after full (codes ", ") left ≡ all
member_written full old separator all e left so_far =
    let more = form_fields full false (fields (members_of left)) in
    let this = form full (value_of e.1) in
    ap (λ b. ((old ++ (separator ++ (codes "\"" ++ (e.0 ++ codes "\": ")))) ++ this) ++ b) (members_after_comma full (fields (members_of left)))
    ∙ member_joined old separator (codes "\"") e.0 (codes "\": ") this more ∙ so_far

-- the members of a map between braces
pub members_framed : (full : Bool) (es : List (Text × Dynamic)) → codes "#{" ++ (members_after full [] es ++ codes "}") ≡ form full (MapV (fields (members_of es)))
unfolding form form_fields
members_framed full [] = refl
members_framed full (e ∷ es) = refl

-- ---- a pointer in full

pointer_joined : (opening name rest close : Text) → (opening ++ name) ++ (rest ++ close) ≡ (opening ++ (name ++ rest)) ++ close
pointer_joined opening name rest close = simp append_assoc

-- the values of a pointer behind the function's name
pub pointer_framed : (f : Text) (xs : List Dynamic) → (codes "Fn(" ++ f) ++ (items_after true (codes ", ") xs ++ codes ")") ≡ form true (PointerV f (values (map value_of xs)))
unfolding form
pointer_framed f xs =
    ap (λ b. (codes "Fn(" ++ f) ++ (b ++ codes ")")) (after_comma true (values (map value_of xs)))
    ∙ pointer_joined (codes "Fn(") f (form_items true false (values (map value_of xs))) (codes ")")
