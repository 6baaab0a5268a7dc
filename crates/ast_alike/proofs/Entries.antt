-- The members of a map, written out. Its keys are in order, so a literal that lists them has its value.
use Rattle.std.proofs.Common.{◌≡◌, true, false, not, cond, ◌&&◌, ◌||◌, List, [], ◌∷◌, ◌++◌, map, Less, nat_cmp, refl, sym, ap, ◌∙◌, subst, append-nil, append_assoc}
use Rattle.std.specs.Cmp.Lexicographic.{slice_cmp}
use Rattle.std.specs.List.{AllByRecursion}
use Rattle.std.specs.List.Sorted.{IsStrictlySortedBy}
use Rattle.std.specs.BTreeMap.{insert_entry}
use Rattle.std.specs.Map as maps
use Rattle.std.specs.Ordering.{is_eq, ordering_reverse}
use Rattle.std.proofs.lemmas.Cmp.{nat_list_cmp_total}
use Rattle.std.proofs.lemmas.List.{map-append}
use Rattle.std.proofs.lemmas.Map.Text.{is_eq-slice_cmp}
use Rattle.base_text.proofs.Sorted.{insert_last}
use Rattle.base_tokens.specs.Names.{is_among}
use Rattle.base_tokens.specs.declared.ident.Ident.{Ident}
use Rattle.rhai_base.specs.declared.dynamic.Dynamic.{Dynamic}
use Rattle.rhai_base.specs.declared.dynamic.Dynamic.TheVariants as dynamic
use Rattle.rhai_base.specs.Reading.{members_of, value_of}
use Rattle.rhai_base.specs.Value.{Text, MapV, fields, same_fields, same_text}
use Rattle.rhai_base.proofs.Same.{same_itself}
use Rattle.theory_spelling.specs.Bare.{are_listed, entries_of, literal_of, members, names_of}
use Rattle.theory_meaning.specs.Elements.{with_entries, with_entry}
use Rattle.theory_meaning.specs.Shape.{are_distinct}
use Rattle.theory_meaning.specs.Tree as abstract
use Rattle.ast_nodes.proofs.Entries.{insert_is}
use Rattle.ast_types.specs.declared.expr.Expr.{Expr}
use Rattle.ast_types.specs.Reading.{keys_of, pairs_of}
use Rattle.ast_alike.proofs.Lists.{named_item, pairs_listed}

abbrev pub Members : Type 0
Members = List (Text × Dynamic)

-- in order of their keys
abbrev pub InOrder : Members → Type 0
InOrder es = IsStrictlySortedBy (slice_cmp nat_cmp) (maps.keys_of es)

-- ---- keys in order are distinct

other : (k u : Text) → slice_cmp nat_cmp k u ≡ Less → same_text u k ≡ false
other k u h = sym (is_eq-slice_cmp u k) ∙ ap is_eq (nat_list_cmp_total.antisymm u k ∙ ap ordering_reverse h)

not_among : (k : Text) (es : Members) → AllByRecursion (λ y. slice_cmp nat_cmp k y ≡ Less) (maps.keys_of es) → is_among k (names_of (fields (members_of es))) ≡ false
not_among k [] h = refl
not_among k (e ∷ es) h = λ i. other k e.0 h.0 i || not_among k es h.1 i

distinct : (es : Members) → InOrder es → are_distinct (names_of (fields (members_of es))) ≡ true
unfolding IsStrictlySortedBy
distinct [] h = refl
distinct (e ∷ es) h = λ i. not (not_among e.0 es h.0 i) && distinct es h.1 i

-- ---- added one after another, they go last each

added : (done more : Members) → InOrder (done ++ more)
    → with_entries (fields (members_of done)) (members (fields (members_of more))) ≡ fields (members_of (done ++ more))
added done [] h = ap (λ es. fields (members_of es)) (sym (append-nil done))
added done (e ∷ more) h =
    let last : with_entry (fields (members_of done)) e.0 (value_of e.1) ≡ fields (members_of (done ++ e ∷ [])) =
    sym (insert_is done e.0 e.1) ∙ ap (λ es. fields (members_of es)) (insert_last done e more h) in
    let all : (done ++ e ∷ []) ++ more ≡ done ++ e ∷ more = append_assoc done (e ∷ []) more in
    ap (λ fs. with_entries fs (members (fields (members_of more)))) last
    ∙ added (done ++ e ∷ []) more (subst InOrder (sym all) h)
    ∙ ap (λ es. fields (members_of es)) all

listed : (es : Members) → InOrder es → are_listed (fields (members_of es)) ≡ true
listed es h = λ i. distinct es h i && (ap (λ fs. same_fields fs (fields (members_of es))) (added [] es h) ∙ same_itself (MapV (fields (members_of es)))) i

names_are : (es : Members) → names_of (fields (members_of es)) ≡ keys_of es
names_are [] = refl
names_are (e ∷ es) = ap (λ ks. e.0 ∷ ks) (names_are es)

-- the literal of a map
pub written_map : (es : Members) → InOrder es → abstract.MapOf (entries_of (fields (members_of es))) (keys_of es) ≡ literal_of (MapV (fields (members_of es)))
written_map es h =
    let fs = fields (members_of es) in
    ap (abstract.MapOf (entries_of fs)) (sym (names_are es)) ∙ sym (ap (λ b. cond b (abstract.MapOf (entries_of fs) (names_of fs)) (abstract.DynamicConstant (MapV fs))) (listed es h))

-- ---- its pairs

abbrev pub literal_entry : Text × Dynamic → Text × abstract.Expr
literal_entry e = (e.0, literal_of (value_of e.1))

entries_listed : (es : Members) → abstract.pairs (map literal_entry es) ≡ entries_of (fields (members_of es))
entries_listed [] = refl
entries_listed (e ∷ es) = ap (abstract.pair e.0 (literal_of (value_of e.1))) (entries_listed es)

pub entries_made : (ys : List (Ident × Expr)) (done left es : Members) → left ≡ [] → es ≡ done ++ left → map named_item ys ≡ map literal_entry done → pairs_of ys ≡ entries_of (fields (members_of es))
entries_made ys done left es none all made =
    sym (pairs_listed ys) ∙ ap abstract.pairs made ∙ entries_listed done ∙ ap (λ l. entries_of (fields (members_of l))) (sym (append-nil done) ∙ ap (λ l. done ++ l) (sym none) ∙ sym all)

-- one more of them
pub one_more_entry : (ys : List (Ident × Expr)) (y : Ident × Expr) (done : Members) (e : Text × Dynamic) → map named_item ys ≡ map literal_entry done → named_item y ≡ literal_entry e
    → map named_item (ys ++ y ∷ []) ≡ map literal_entry (done ++ e ∷ [])
one_more_entry ys y done e made one = map-append named_item ys (y ∷ []) ∙ (λ i. made i ++ one i ∷ []) ∙ sym (map-append literal_entry done (e ∷ []))

-- ---- its template

abbrev pub blank : Text × Dynamic → Text × Dynamic
blank e = (e.0, dynamic.Unit)

blank_keys : (es : Members) → maps.keys_of (map blank es) ≡ maps.keys_of es
blank_keys [] = refl
blank_keys (e ∷ es) = ap (λ ks. e.0 ∷ ks) (blank_keys es)

blank_names : (es : Members) → keys_of (map blank es) ≡ keys_of es
blank_names [] = refl
blank_names (e ∷ es) = ap (λ ks. e.0 ∷ ks) (blank_names es)

pub blank_last : (done : Members) (e : Text × Dynamic) (left : Members) → InOrder (done ++ e ∷ left)
    → insert_entry (slice_cmp nat_cmp) (map blank done) e.0 dynamic.Unit ≡ map blank (done ++ e ∷ [])
blank_last done e left h =
    let keys : maps.keys_of (map blank done ++ blank e ∷ map blank left) ≡ maps.keys_of (done ++ e ∷ left) =
    ap maps.keys_of (sym (map-append blank done (e ∷ left))) ∙ blank_keys (done ++ e ∷ left) in
    insert_last (map blank done) (blank e) (map blank left) (subst (IsStrictlySortedBy (slice_cmp nat_cmp)) (sym keys) h) ∙ sym (map-append blank done (e ∷ []))

pub blanks_made : (template done left es : Members) → left ≡ [] → es ≡ done ++ left → template ≡ map blank done → keys_of template ≡ keys_of es
blanks_made template done left es none all made = ap keys_of made ∙ blank_names done ∙ ap keys_of (sym (append-nil done) ∙ ap (λ l. done ++ l) (sym none) ∙ sym all)
