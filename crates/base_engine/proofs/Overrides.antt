-- Lists of texts and of overrides, an item at a time.
use Rattle.std.proofs.Common.{◌≡◌, ◌≢◌, ℕ, suc, ◌+◌, ◌<◌, Bool, true, false, ◌&&◌, ◌||◌, List, [], ◌∷◌, length, get_or, drop, map, refl, ap, add-one, arith, Bor, ◌⊎◌, ◌∙◌, sym, inl, inr}
use Rattle.std.specs.Map.Iter.{deref}
use Rattle.std.proofs.Math.Seq.{drop-cons, drop-length}
use Rattle.rhai_base.specs.Value.{Text, same_text}
use Rattle.theory_meaning.specs.Engine.{Override, has_override, overrides_any, same_texts}
use Rattle.base_engine.specs.Override.{is_override}

pub has_override-drop : (os : List Override) (i : ℕ) (d : Override) (name : Text) (types : List Text) → i < length os
    → has_override (drop i os) name types ≡ (is_override (get_or os i d) name types || has_override (drop (i + 1) os) name types)
has_override-drop os i d name types h = rw (add-one, drop-cons os i d) refl

pub has_override-end : (os : List Override) (name : Text) (types : List Text) → has_override (drop (length os) os) name types ≡ false
has_override-end os name types = ap (λ l. has_override l name types) (drop-length os)

pub overrides_any-drop : (os : List Override) (i : ℕ) (d : Override) (name : Text) → i < length os
    → overrides_any (drop i os) name ≡ (same_text (get_or os i d).name name || overrides_any (drop (i + 1) os) name)
overrides_any-drop os i d name h = rw (add-one, drop-cons os i d) refl

pub overrides_any-end : (os : List Override) (name : Text) → overrides_any (drop (length os) os) name ≡ false
overrides_any-end os name = ap (λ l. overrides_any l name) (drop-length os)

pub ruleset steps = (has_override-drop, has_override-end, overrides_any-drop, overrides_any-end)

-- the first texts are compared
pub same_texts-same : (xs fs : List Text) (ys gs : List (Bor Text)) (x : Text) (y : Bor Text) → xs ≡ x ∷ fs → ys ≡ y ∷ gs → same_text x y.now ≡ true
    → same_texts xs (map deref ys) ≡ same_texts fs (map deref gs)
same_texts-same xs fs ys gs x y e f h = (λ i. same_texts (e i) (map deref (f i))) ∙ ap (λ b. b && same_texts fs (map deref gs)) h

pub same_texts-other : (xs fs : List Text) (ys gs : List (Bor Text)) (x : Text) (y : Bor Text) → xs ≡ x ∷ fs → ys ≡ y ∷ gs → same_text x y.now ≡ false
    → same_texts xs (map deref ys) ≡ false
same_texts-other xs fs ys gs x y e f h = (λ i. same_texts (e i) (map deref (f i))) ∙ ap (λ b. b && same_texts fs (map deref gs)) h

pub lengths-rest : (xs fs : List Text) (ys gs : List (Bor Text)) (x : Text) (y : Bor Text) → xs ≡ x ∷ fs → ys ≡ y ∷ gs → length xs ≡ length ys
    → length fs ≡ length gs
lengths-rest xs fs ys gs x y e f h = let p : suc (length fs) ≡ suc (length gs) = sym (ap length e) ∙ h ∙ ap length f in omega (arith, p)

pub same_texts-lengths : (xs : List Text) (ys : List (Bor Text)) → length xs ≢ length ys → same_texts xs (map deref ys) ≡ false
same_texts-lengths [] [] h = absurd (h refl)
same_texts-lengths [] (y ∷ ys) h = refl
same_texts-lengths (x ∷ xs) [] h = refl
same_texts-lengths (x ∷ xs) (y ∷ ys) h = ap (λ b. same_text x y.now && b) (same_texts-lengths xs ys (λ e. h (ap suc e))) ∙ and_false (same_text x y.now)
  where
    and_false : (b : Bool) → (b && false) ≡ false
    and_false true = refl
    and_false false = refl

pub same_texts-none : (xs : List Text) (ys : List (Bor Text)) → length xs ≡ length ys → (xs ≡ []) ⊎ (ys ≡ []) → same_texts xs (map deref ys) ≡ true
same_texts-none [] [] e h = refl
same_texts-none [] (y ∷ ys) e h = absurd (omega (arith, e))
same_texts-none (x ∷ xs) [] e h = absurd (omega (arith, e))
same_texts-none (x ∷ xs) (y ∷ ys) e (inl p) = cc
same_texts-none (x ∷ xs) (y ∷ ys) e (inr p) = cc
