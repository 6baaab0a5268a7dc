-- Characters one after another, and the parts of a text.
use Rattle.std.proofs.Common.{◌≡◌, ℕ, zero, suc, ◌+◌, ◌-◌, ◌<◌, ◌≤◌, true, false, List, [], ◌∷◌, ◌++◌, map, length, length-drop, get_or, take, drop, Some, None, refl, sym, ap, ◌∙◌, arith, append_assoc}
use Rattle.std.specs.Prelude.{if◌then◌else◌, encode_utf8_all}
use Rattle.std.proofs.Math.Seq.{drop-length, take-length}
use Rattle.std.proofs.lemmas.List.{drop-drop, map-append}
use Rattle.rhai_base.specs.declared.dynamic.Dynamic.{Dynamic}
use Rattle.rhai_base.specs.declared.dynamic.Dynamic.TheVariants as dynamic
use Rattle.rhai_base.specs.Reading.{value_of, value_of-Str}
use Rattle.rhai_base.specs.Value.{Text, TextV}
use Rattle.run_standard.specs.Texts.{begins_with, place_of_part, kept_behind, replaced, behind_last, pieces}

pub next-drop : (cs : List ℕ) (i : ℕ) → drop 1 (drop i cs) ≡ drop (i + 1) cs
next-drop cs i = drop-drop 1 i cs

-- the characters from a place on, as code slices them
pub rest-slice : (cs : List ℕ) (i : ℕ) → take (length cs - i) (drop i cs) ≡ drop i cs
rest-slice cs i = ap (λ n. take n (drop i cs)) (sym (length-drop i cs)) ∙ take-length (drop i cs)

drop-past : (cs : List ℕ) (i : ℕ) → length cs ≤ i → drop i cs ≡ []
drop-past [] zero h = refl
drop-past [] (suc i) h = refl
drop-past (c ∷ cs) zero h = absurd (omega arith)
drop-past (c ∷ cs) (suc i) h = drop-past cs i (omega arith)

-- ---- the place of a part

pub place-found : (part cs : List ℕ) (i : ℕ) → begins_with part cs ≡ true → place_of_part i part cs ≡ Some i
place-found part [] i h = ap (λ b. if b then Some i else None) h
place-found part (c ∷ cs) i h = ap (λ b. if b then Some i else place_of_part (i + 1) part cs) h

place-cons : (part cs : List ℕ) (i : ℕ) → 0 < length cs → begins_with part cs ≡ false → place_of_part i part cs ≡ place_of_part (i + 1) part (drop 1 cs)
place-cons part [] i l h = absurd (omega arith)
place-cons part (c ∷ cs) i l h = ap (λ b. if b then Some i else place_of_part (i + 1) part cs) h

pub place-next : (part cs : List ℕ) (i : ℕ) → 0 < length (drop i cs) → begins_with part (drop i cs) ≡ false → place_of_part i part (drop i cs) ≡ place_of_part (i + 1) part (drop (i + 1) cs)
place-next part cs i l h = place-cons part (drop i cs) i l h ∙ ap (place_of_part (i + 1) part) (next-drop cs i)

pub place-none : (part cs : List ℕ) → begins_with part (drop (length cs) cs) ≡ false → place_of_part (length cs) part (drop (length cs) cs) ≡ None
place-none part cs h =
    ap (place_of_part (length cs) part) (drop-length cs) ∙ ap (λ b. if b then Some (length cs) else None) (ap (begins_with part) (sym (drop-length cs)) ∙ h)

-- ---- with others in place of a part

pub replaced-skip : (part to cs all : List ℕ) (k : ℕ) → 0 < k → 0 < length cs → all ++ replaced part to (k - 1) (drop 1 cs) ≡ all ++ replaced part to k cs
replaced-skip part to [] all k h l = absurd (omega arith)
replaced-skip part to (c ∷ cs) all zero h l = absurd (omega arith)
replaced-skip part to (c ∷ cs) all (suc k) h l = let e : suc k - 1 ≡ k = omega arith in rw e refl

pub replaced-keep : (part to cs all more : List ℕ) (d : ℕ) → 0 < length cs → begins_with part cs ≡ false → d ≡ get_or cs 0 d → more ≡ all ++ d ∷ [] → more ++ replaced part to 0 (drop 1 cs) ≡ all ++ replaced part to 0 cs
replaced-keep part to [] all more d l h i e = absurd (omega arith)
replaced-keep part to (c ∷ cs) all more d l h i e =
    ap (λ xs. xs ++ replaced part to 0 cs) (e ∙ ap (λ x. all ++ x ∷ []) i) ∙ append_assoc all (c ∷ []) (replaced part to 0 cs)
    ∙ ap (λ b. all ++ (if b then (to ++ kept_behind part c) ++ replaced part to (length part - 1) cs else c ∷ replaced part to zero cs)) (sym h)

pub replaced-here : (part to cs all some more : List ℕ) (d : ℕ) → 0 < length cs → begins_with part cs ≡ true → d ≡ get_or cs 0 d → some ≡ all ++ to → more ≡ some ++ kept_behind part d
    → more ++ replaced part to (length part - 1) (drop 1 cs) ≡ all ++ replaced part to 0 cs
replaced-here part to [] all some more d l h i e f = absurd (omega arith)
replaced-here part to (c ∷ cs) all some more d l h i e f =
    let rest = replaced part to (length part - 1) cs in
    let moved : ((all ++ to) ++ kept_behind part c) ++ rest ≡ all ++ ((to ++ kept_behind part c) ++ rest) = simp append_assoc in
    ap (λ xs. xs ++ rest) (f ∙ ap (λ x. some ++ kept_behind part x) i ∙ ap (λ xs. xs ++ kept_behind part c) e) ∙ moved
    ∙ ap (λ b. all ++ (if b then (to ++ kept_behind part c) ++ rest else c ∷ replaced part to zero cs)) (sym h)

-- ---- pieces

pub pieces-skip : (part now cs : List ℕ) (all : List Dynamic) (k : ℕ) → 0 < k → 0 < length cs → map value_of all ++ pieces part (k - 1) now (drop 1 cs) ≡ map value_of all ++ pieces part k now cs
pieces-skip part now [] all k h l = absurd (omega arith)
pieces-skip part now (c ∷ cs) all zero h l = absurd (omega arith)
pieces-skip part now (c ∷ cs) all (suc k) h l = let e : suc k - 1 ≡ k = omega arith in rw e refl

pub pieces-keep : (part now cs more : List ℕ) (all : List Dynamic) (d : ℕ) → 0 < length cs → begins_with part cs ≡ false → d ≡ get_or cs 0 d → more ≡ now ++ d ∷ []
    → map value_of all ++ pieces part 0 more (drop 1 cs) ≡ map value_of all ++ pieces part 0 now cs
pieces-keep part now [] more all d l h i e = absurd (omega arith)
pieces-keep part now (c ∷ cs) more all d l h i e =
    ap (λ xs. map value_of all ++ pieces part 0 xs cs) (e ∙ ap (λ x. now ++ x ∷ []) i)
    ∙ ap (λ b. map value_of all ++ (if b then TextV (encode_utf8_all now) ∷ pieces part (length part - 1) (kept_behind part c) cs else pieces part zero (now ++ c ∷ []) cs)) (sym h)

pub pieces-here : (part now cs more : List ℕ) (t : Text) (all bs : List Dynamic) (d : ℕ) → 0 < length cs → begins_with part cs ≡ true
    → d ≡ get_or cs 0 d → t ≡ encode_utf8_all now → bs ≡ all ++ dynamic.Str t ∷ [] → more ≡ [] ++ kept_behind part d
    → map value_of bs ++ pieces part (length part - 1) more (drop 1 cs) ≡ map value_of all ++ pieces part 0 now cs
pieces-here part now [] more t all bs d l h i e f g = absurd (omega arith)
pieces-here part now (c ∷ cs) more t all bs d l h i e f g =
    let rest = pieces part (length part - 1) (kept_behind part c) cs in
    ap (λ xs. map value_of xs ++ pieces part (length part - 1) more cs) f ∙ ap (λ xs. map value_of (all ++ dynamic.Str t ∷ []) ++ pieces part (length part - 1) xs cs) (g ∙ ap (kept_behind part) i)
    ∙ ap (λ xs. xs ++ rest) (map-append value_of all (dynamic.Str t ∷ [])) ∙ append_assoc (map value_of all) (value_of (dynamic.Str t) ∷ []) rest
    ∙ ap (λ v. map value_of all ++ v ∷ rest) (value_of-Str t ∙ ap TextV e)
    ∙ ap (λ b. map value_of all ++ (if b then TextV (encode_utf8_all now) ∷ rest else pieces part zero (now ++ c ∷ []) cs)) (sym h)

pub pieces-end : (part now cs : List ℕ) (t : Text) (all bs : List Dynamic) (k i : ℕ) → length cs ≤ i → t ≡ encode_utf8_all now → bs ≡ all ++ dynamic.Str t ∷ []
    → map value_of bs ++ behind_last part ≡ map value_of all ++ pieces part k now (drop i cs)
pieces-end part now cs t all bs k i h e f =
    ap (λ xs. map value_of xs ++ behind_last part) f ∙ ap (λ xs. xs ++ behind_last part) (map-append value_of all (dynamic.Str t ∷ []))
    ∙ append_assoc (map value_of all) (value_of (dynamic.Str t) ∷ []) (behind_last part)
    ∙ ap (λ v. map value_of all ++ v ∷ behind_last part) (value_of-Str t ∙ ap TextV e)
    ∙ ap (λ xs. map value_of all ++ pieces part k now xs) (sym (drop-past cs i h))

pub ruleset parts = (next-drop, place-found, place-next, place-none)
