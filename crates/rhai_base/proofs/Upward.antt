-- Integers upward from a first one, and how many stand between two ends.
use Rattle.std.proofs.Common.{◌≡◌, ℕ, zero, suc, ◌+◌, ◌-◌, ◌<◌, ◌^◌, Bool, true, false, [], ◌∷◌, length, get_or, ℤ, pos, negsuc, ◌+ℤ◌, ◌-ℤ◌, ◌<ℤ◌, ◌≤ℤ◌, Contains, AllPairs, Option, Some, None, MatchOption, w64, refl, sym, ap, ◌∙◌, subst, arith}
use Rattle.std.specs.Int.{int_gap}
use Rattle.std.specs.Int.RustNames.{FitsSigned}
use Rattle.std.specs.Option.{SomeIff}
use Rattle.std.specs.Range.{range_inclusive_len}
use Rattle.std.proofs.lemmas.Int.{ints}
use Rattle.rhai_base.specs.Upward.{upward}

pub length-upward : (a : ℤ) (n : ℕ) → length (upward a n) ≡ n
length-upward a zero = refl
length-upward a (suc n) = ap suc (length-upward (a +ℤ pos 1) n)

pub some_upward : (a : ℤ) (n : ℕ) → (upward a n ≡ [] → ⊥) → 0 < n
some_upward a zero h = absurd (h refl)
some_upward a (suc n) h = omega arith

-- ---- how many stand between two ends

pub gap_above : (a b : ℤ) → 0 < int_gap a b → b -ℤ a ≡ pos (int_gap a b)
gap_above (pos a) (pos b) h = omega (arith, ints)
gap_above (pos a) (negsuc b) h = absurd (omega arith)
gap_above (negsuc a) (pos b) h = omega (arith, ints)
gap_above (negsuc a) (negsuc b) h = omega (arith, ints)

pub gap_through : (a b : ℤ) → 0 < int_gap a b + 1 - int_gap b a → (b -ℤ a ≡ pos (int_gap a b)) × (int_gap b a ≡ 0)
gap_through (pos a) (pos b) h = (omega (arith, ints), omega arith)
gap_through (pos a) (negsuc b) h = absurd (omega arith)
gap_through (negsuc a) (pos b) h = (omega (arith, ints), omega arith)
gap_through (negsuc a) (negsuc b) h = (omega (arith, ints), omega arith)

pub gap_next : (a b : ℤ) → 0 < int_gap a b → int_gap a b ≡ suc (int_gap (a +ℤ pos 1) b)
gap_next (pos a) (pos b) h = omega arith
gap_next (pos a) (negsuc b) h = absurd (omega arith)
gap_next (negsuc zero) (pos b) h = omega arith
gap_next (negsuc zero) (negsuc b) h = absurd (omega arith)
gap_next (negsuc (suc a)) (pos b) h =
    let e : negsuc (suc a) +ℤ pos 1 ≡ negsuc a = omega (arith, ints) in
    let f : int_gap (negsuc (suc a)) (pos b) ≡ suc (int_gap (negsuc a) (pos b)) = omega arith in
    f ∙ ap (λ z. suc (int_gap z (pos b))) (sym e)
gap_next (negsuc (suc a)) (negsuc b) h =
    let e : negsuc (suc a) +ℤ pos 1 ≡ negsuc a = omega (arith, ints) in
    let f : int_gap (negsuc (suc a)) (negsuc b) ≡ suc (int_gap (negsuc a) (negsuc b)) = omega arith in
    f ∙ ap (λ z. suc (int_gap z (negsuc b))) (sym e)

-- ---- one integer taken

pub taken_open : (a b c : ℤ) (out : Option ℤ) → MatchOption out ((int_gap a b ≡ 0) × (c ≡ a)) (λ x. (0 < int_gap a b) × (x ≡ a) × (c ≡ a +ℤ pos 1))
    → MatchOption out ((upward a (int_gap a b) ≡ []) × (upward c (int_gap c b) ≡ [])) (λ x. upward a (int_gap a b) ≡ x ∷ upward c (int_gap c b))
taken_open a b c None (e, f) = (ap (upward a) e, ap (λ d. upward d (int_gap d b)) f ∙ ap (upward a) e)
taken_open a b c (Some x) (h, e, f) = ap (upward a) (gap_next a b h) ∙ ap (λ y. y ∷ upward (a +ℤ pos 1) (int_gap (a +ℤ pos 1) b)) (sym e) ∙ ap (λ d. x ∷ upward d (int_gap d b)) (sym f)

-- the last one, or one before others
pub one_taken : (a b c x : ℤ) (m : ℕ) (spent : Bool) → x ≡ a → range_inclusive_len int_gap c b spent + 1 ≡ m → (spent ≡ false → c ≡ a +ℤ pos 1)
    → upward a m ≡ x ∷ upward c (range_inclusive_len int_gap c b spent)
one_taken a b c x m true e f g = let k : m ≡ 1 = sym f in ap (upward a) k ∙ ap (λ y. y ∷ []) (sym e)
one_taken a b c x m false e f g =
    let n : ℕ = int_gap c b + 1 - int_gap b c in
    let k : m ≡ suc n = omega arith in
    ap (upward a) k ∙ ap (λ y. y ∷ upward (a +ℤ pos 1) n) (sym e) ∙ ap (λ d. x ∷ upward d n) (sym (g refl))

-- ---- a length that fits

fits_pos : (k : ℕ) → k < 2 ^ 63 → FitsSigned w64 (pos k)
fits_pos k h = record { sfits = h }

-- a difference that is checked, where it is this number
pub checked_is : (z : ℤ) (k : ℕ) (r : Option ℤ) → z ≡ pos k → SomeIff r (FitsSigned w64 z) z → SomeIff r (k < 2 ^ 63) (pos k)
checked_is z k None e h = λ small. h (subst (FitsSigned w64) (sym e) (fits_pos k small))
checked_is z k (Some x) e (f, g) = ((subst (FitsSigned w64) e f).sfits, g ∙ e)

pub length_is : (a : ℤ) (n : ℕ) (r : Option ℤ) → SomeIff r (n < 2 ^ 63) (pos n) → SomeIff r (length (upward a n) < 2 ^ 63) (pos (length (upward a n)))
length_is a n r h = subst (λ k. SomeIff r (k < 2 ^ 63) (pos k)) (sym (length-upward a n)) h

-- both ends of a range that holds something, and its length
pub len_closed : (a b : ℤ) (spent : Bool) → 0 < range_inclusive_len int_gap a b spent → (b -ℤ a ≡ pos (int_gap a b)) × (range_inclusive_len int_gap a b spent ≡ int_gap a b + 1)
len_closed a b true h = absurd (omega arith)
len_closed a b false h = let e = gap_through a b h in (e.0, let z : int_gap b a ≡ 0 = e.1 in omega arith)

-- ---- which integers they are

get_or-upward : (a : ℤ) (n k : ℕ) (d : ℤ) → k < n → get_or (upward a n) k d ≡ a +ℤ pos k
get_or-upward a zero k d h = absurd (omega arith)
get_or-upward a (suc n) zero d h = omega (arith, ints)
get_or-upward a (suc n) (suc k) d h = get_or-upward (a +ℤ pos 1) n k d (omega arith) ∙ omega (arith, ints)

pub rising : (a : ℤ) (n : ℕ) → AllPairs (λ x y. x <ℤ y) (upward a n)
rising a n i j d lt l =
    let low : j < n = omega (arith, length-upward a n) in
    let e = get_or-upward a n i d (omega arith) in
    let f = get_or-upward a n j d low in
    let g : (a +ℤ pos i) <ℤ (a +ℤ pos j) = omega (arith, ints) in
    subst (λ x. x <ℤ get_or (upward a n) j d) (sym e) (subst (λ y. (a +ℤ pos i) <ℤ y) (sym f) g)

pub within : (a : ℤ) (n : ℕ) (x : ℤ) → Contains (upward a n) x → (a ≤ℤ x) × (x <ℤ (a +ℤ pos n))
within a n x (k, l, e) =
    let low : k < n = omega (arith, length-upward a n) in
    let f : a +ℤ pos k ≡ x = sym (get_or-upward a n k x low) ∙ e in
    (omega (arith, ints), omega (arith, ints))

reaches : (a x : ℤ) → a ≤ℤ x → a +ℤ pos (int_gap a x) ≡ x
reaches (pos a) (pos b) h = omega (arith, ints)
reaches (pos a) (negsuc b) h = absurd (omega (arith, ints))
reaches (negsuc a) (pos b) h = omega (arith, ints)
reaches (negsuc a) (negsuc b) h = omega (arith, ints)

pub contained : (a : ℤ) (n : ℕ) (x : ℤ) → a ≤ℤ x → x <ℤ (a +ℤ pos n) → Contains (upward a n) x
contained a n x h g =
    let k : ℕ = int_gap a x in
    let e : a +ℤ pos k ≡ x = reaches a x h in
    let low : k < n = omega (arith, ints) in
    (k, omega (arith, length-upward a n), get_or-upward a n k x low ∙ e)
