-- Elements, entries, characters and bits, as the code finds them.
use Rattle.std.proofs.Common.{◌≡◌, ℕ, zero, suc, ◌<◌, ◌≤◌, ◌/◌, ◌%◌, ◌^◌, Bool, true, false, cond, List, [], ◌∷◌, ◌++◌, length, map, get_or, Option, Some, None, Bor, nat_eq, w64, refl, sym, ap, ◌∙◌, subst, arith}
use Rattle.std.specs.Prelude.{ℤ, pos, negsuc, slice_get, if◌then◌else◌}
use Rattle.std.specs.Int.{cast_unsigned}
use Rattle.std.specs.Iterator.{Yields, Drains, SkipsThenYields}
use Rattle.std.specs.Option.{option_map, option_copied, unwrap_or}
use Rattle.std.specs.Ordering.{nat_cmp}
use Rattle.std.specs.Cmp.Lexicographic.{slice_cmp, nat_list_eq_equiv}
use Rattle.std.specs.BTreeMap.{is_at}
use Rattle.std.specs.Map.{lookup}
use Rattle.std.specs.Slice.{IsItemAt}
use Rattle.std.specs.Str.{IsUtf8, chars}
use Rattle.std.specs.Str.Iter.{chars_rest, chars_steps}
use Rattle.std.specs.declared.str.Chars.{Chars}
use Rattle.std.proofs.lemmas.Map.Text.{is_eq-slice_cmp}
use Rattle.std.proofs.lemmas.Str.{Chars-Drains, IsUtf8-past_char, chars_past_char, encodes-chars}
use Rattle.rhai_base.specs.declared.dynamic.Dynamic.{Dynamic}
use Rattle.rhai_base.specs.Reading.{value_of, members_of}
use Rattle.rhai_base.specs.Value.{Text, UnitV, BoolV, CharV, values, fields, same_text}
use Rattle.rhai_base.specs.Operators.{bits_of}
use Rattle.theory_meaning.specs.Elements.{at_index, index_in, count, value_at, element, entry, character, bit}

-- ---- places by an index

-- ---- elements

slice_get_some : (xs : List Dynamic) (k : ℕ) (d : Dynamic) → k < length xs → slice_get xs k ≡ Some (get_or xs k d)
slice_get_some [] k d h = absurd (omega arith)
slice_get_some (x ∷ xs) zero d h = refl
slice_get_some (x ∷ xs) (suc k) d h = slice_get_some xs k d (omega arith)

slice_get_none : {A : Type 0} (xs : List A) (k : ℕ) → length xs ≤ k → slice_get xs k ≡ None
slice_get_none [] k h = refl
slice_get_none (x ∷ xs) zero h = absurd (omega arith)
slice_get_none (x ∷ xs) (suc k) h = slice_get_none xs k (omega arith)

pub get_is : (xs : List Dynamic) (k : ℕ) (r : Option (Bor Dynamic)) → IsItemAt xs k r → option_copied r ≡ slice_get xs k
get_is xs k None h = sym (slice_get_none xs k h.3)
get_is xs k (Some x) h = ap Some h.1 ∙ sym (slice_get_some xs k x.now h.3.0)

count-values : (xs : List Dynamic) → count (values (map value_of xs)) ≡ length xs
count-values [] = refl
count-values (x ∷ xs) = ap suc (count-values xs)

pub index_in-values : (xs : List Dynamic) (i : ℤ) → index_in (count (values (map value_of xs))) i ≡ index_in (length xs) i
index_in-values xs i = ap (λ n. index_in n i) (count-values xs)

value_at-values : (xs : List Dynamic) (i : ℕ) → value_at (values (map value_of xs)) i ≡ option_map value_of (slice_get xs i)
value_at-values [] i = refl
value_at-values (x ∷ xs) zero = refl
value_at-values (x ∷ xs) (suc i) = value_at-values xs i

pub element_none : (xs : List Dynamic) (i : ℤ) → index_in (length xs) i ≡ None → element (values (map value_of xs)) i ≡ None
element_none xs i h = ap (λ o. at_index o (value_at (values (map value_of xs)))) (index_in-values xs i ∙ h)

pub element_some : (xs : List Dynamic) (i : ℤ) (k : ℕ) → index_in (length xs) i ≡ Some k → element (values (map value_of xs)) i ≡ option_map value_of (slice_get xs k)
element_some xs i k h = ap (λ o. at_index o (value_at (values (map value_of xs)))) (index_in-values xs i ∙ h) ∙ value_at-values xs k

pub element_at : (xs : List Dynamic) (i : ℤ) (k : ℕ) (x : Dynamic) → index_in (length xs) i ≡ Some k → k < length xs → x ≡ get_or xs k x → element (values (map value_of xs)) i ≡ Some (value_of x)
element_at xs i k x h l e = element_some xs i k h ∙ ap (option_map value_of) (slice_get_some xs k x l) ∙ ap (λ y. Some (value_of y)) (sym e)

-- ---- entries

-- a query finds the key of its text
pub is_at-same : (k l : Text) → is_at (slice_cmp nat_cmp k) l ≡ same_text l k
is_at-same k l = is_eq-slice_cmp k l ∙ nat_list_eq_equiv.symm k l

entry-lookup : (es : List (Text × Dynamic)) (k : Text) → entry (fields (members_of es)) k ≡ unwrap_or (option_map value_of (lookup (is_at (slice_cmp nat_cmp k)) es)) UnitV
entry-lookup [] k = refl
entry-lookup (e ∷ es) k = by (is_at (slice_cmp nat_cmp k) e.0) (same_text e.0 k) (is_at-same k e.0) (entry-lookup es k) where
  by : (b c : Bool) → b ≡ c → entry (fields (members_of es)) k ≡ unwrap_or (option_map value_of (lookup (is_at (slice_cmp nat_cmp k)) es)) UnitV → (if c then value_of e.1 else entry (fields (members_of es)) k) ≡ unwrap_or (option_map value_of (cond b (Some e.1) (lookup (is_at (slice_cmp nat_cmp k)) es))) UnitV
  by true true h q = refl
  by false false h q = q
  by true false h q = cc
  by false true h q = cc

pub entry_some : (es : List (Text × Dynamic)) (k : Text) (v : Dynamic) → lookup (is_at (slice_cmp nat_cmp k)) es ≡ Some v → entry (fields (members_of es)) k ≡ value_of v
entry_some es k v h = entry-lookup es k ∙ ap (λ o. unwrap_or (option_map value_of o) UnitV) h

pub entry_none : (es : List (Text × Dynamic)) (k : Text) → lookup (is_at (slice_cmp nat_cmp k)) es ≡ None → entry (fields (members_of es)) k ≡ UnitV
entry_none es k h = entry-lookup es k ∙ ap (λ o. unwrap_or (option_map value_of o) UnitV) h

-- ---- characters

pub character_none : (t : Text) (i : ℤ) → index_in (length (chars t)) i ≡ None → character t i ≡ None
unfolding character
character_none t i h = ap (λ o. at_index o (λ k. option_map CharV (slice_get (chars t) k))) h

pub character_some : (t : Text) (i : ℤ) (k : ℕ) → index_in (length (chars t)) i ≡ Some k → character t i ≡ option_map CharV (slice_get (chars t) k)
unfolding character
character_some t i k h = ap (λ o. at_index o (λ j. option_map CharV (slice_get (chars t) j))) h

pub counted : (bs : List ℕ) (s : Chars) (n : ℕ) → IsUtf8 bs → chars_rest s ≡ bs → ((xs : List ℕ) × Drains chars_steps s xs × (n ≡ length xs)) → n ≡ length (chars bs)
counted bs s n u e d = d.2 ∙ ap length (Chars-Drains (chars bs) d.0 s (encodes-chars bs u ∙ sym e) d.1)

yields_chars : (s t : Chars) (xs : List ℕ) → IsUtf8 (chars_rest s) → Yields chars_steps s xs t → chars (chars_rest s) ≡ xs ++ chars (chars_rest t)
yields_chars s t [] u q = ap (λ z. chars (chars_rest z)) q
yields_chars s t (x ∷ xs) u q = chars_past_char (chars_rest s) (chars_rest q.0) x u q.1.0 ∙ ap (λ l. x ∷ l) (yields_chars q.0 t xs (IsUtf8-past_char (chars_rest s) (chars_rest q.0) x u q.1.0) q.2)

past : (xs cs : List ℕ) (n : ℕ) → length xs ≡ n → slice_get (xs ++ cs) n ≡ slice_get cs 0
past [] cs n h = ap (slice_get cs) (sym h)
past (x ∷ xs) cs zero h = absurd (omega arith)
past (x ∷ xs) cs (suc n) h = past xs cs n (omega arith)

past_all : (xs cs : List ℕ) (n : ℕ) → length xs ≤ n → None ≡ slice_get cs 0 → slice_get (xs ++ cs) n ≡ None
past_all [] [] n h e = refl
past_all [] (c ∷ cs) n h e = cc
past_all (x ∷ xs) cs zero h e = absurd (omega arith)
past_all (x ∷ xs) cs (suc n) h e = past_all xs cs n (omega arith) e

pub nth_is : (bs : List ℕ) (s u : Chars) (n : ℕ) (r : Option ℕ) → IsUtf8 bs → chars_rest s ≡ bs → SkipsThenYields chars_steps s n r u → r ≡ slice_get (chars bs) n
nth_is bs s u n (Some c) v e h =
    let all : chars bs ≡ h.0 ++ chars (chars_rest h.1.0) = ap chars (sym e) ∙ yields_chars s h.1.0 h.0 (subst IsUtf8 (sym e) v) h.1.1 in
    h.1.2.2 ∙ sym (past h.0 (chars (chars_rest h.1.0)) n h.2) ∙ ap (λ cs. slice_get cs n) (sym all)
nth_is bs s u n None v e h =
    let all : chars bs ≡ h.0 ++ chars (chars_rest h.1.0) = ap chars (sym e) ∙ yields_chars s h.1.0 h.0 (subst IsUtf8 (sym e) v) h.1.1 in
    sym (past_all h.0 (chars (chars_rest h.1.0)) n h.2 h.1.2.2) ∙ ap (λ cs. slice_get cs n) (sym all)

-- ---- bits

bits_are : (n : ℤ) → cast_unsigned w64 n ≡ bits_of n
bits_are (pos n) = refl
bits_are (negsuc n) = refl

pub bit_none : (n i : ℤ) → index_in 64 i ≡ None → bit n i ≡ None
bit_none n i h = ap (option_map (λ k. BoolV (nat_eq (bits_of n / 2 ^ k % 2) 1))) h

pub bit_some : (n i : ℤ) (k x : ℕ) → index_in 64 i ≡ Some k → x ≡ cast_unsigned w64 n → bit n i ≡ Some (BoolV (nat_eq (x / 2 ^ k % 2) 1))
bit_some n i k x h e = ap (option_map (λ j. BoolV (nat_eq (bits_of n / 2 ^ j % 2) 1))) h ∙ ap (λ y. Some (BoolV (nat_eq (y / 2 ^ k % 2) 1))) (sym (e ∙ bits_are n))

pub ruleset parts = (element_none, element_some, entry_some, entry_none, character_none, character_some, bit_none)
