-- One step of each search for digits.
use Rattle.std.proofs.Math.Nat.{le_trans, mul-le-mul_right, not-suc-le-zero, pow-suc, pow-le-pow_right}
use Rattle.std.proofs.Common.{arith, subst, List, ◌++◌, replicate, codes, ◌≡◌, ℕ, zero, suc, ◌+◌, ◌-◌, ◌*◌, ◌<◌, ◌≤◌, ◌^◌, if◌then◌else◌, refl, sym, ap, ◌∙◌}
use Rattle.base_floats.specs.Digits.{read_at, power_below, next, until_read, least, plain, with_fraction}
use Rattle.std.proofs.lemmas.Bool.{lt-leb, le-leb, le-ltb, eq-eqb, ne_eqb}

less : (n : ℕ) → suc n - 1 ≡ n
less n = search arith

pub power_more : (x e : ℕ) → 0 < e → x < read_at e 1 → power_below x (e - 1) ≡ power_below x e
unfolding power_below
power_more x zero h k = absurd (not-suc-le-zero h)
power_more x (suc e) h k = ap (power_below x) (less e) ∙ ap (λ b. if b then suc e else power_below x e) (sym (lt-leb (read_at (suc e) 1) x k))

pub power_stays : (x e : ℕ) → read_at e 1 ≤ x → e ≡ power_below x e
unfolding power_below
power_stays x zero k = refl
power_stays x (suc e) k = ap (λ b. if b then suc e else power_below x e) (sym (le-leb (read_at (suc e) 1) x k))

pub power_least : (x e : ℕ) → e ≤ 0 → e ≡ power_below x e
unfolding power_below
power_least x zero h = refl
power_least x (suc e) h = absurd (not-suc-le-zero h)

plus_none : (d : ℕ) → d + 0 ≡ d
plus_none d = search arith

pub next_more : (x e d c : ℕ) → 0 < c → x < read_at e (d * 10 + c) → next x e d (c - 1) ≡ next x e d c
unfolding next
next_more x e d zero h k = absurd (not-suc-le-zero h)
next_more x e d (suc c) h k = ap (next x e d) (less c) ∙ ap (λ b. if b then d * 10 + suc c else next x e d c) (sym (lt-leb (read_at e (d * 10 + suc c)) x k))

pub next_stays : (x e d c : ℕ) → read_at e (d * 10 + c) ≤ x → d * 10 + c ≡ next x e d c
unfolding next
next_stays x e d zero k = plus_none (d * 10)
next_stays x e d (suc c) k = ap (λ b. if b then d * 10 + suc c else next x e d c) (sym (le-leb (read_at e (d * 10 + suc c)) x k))

pub next_least : (x e d c : ℕ) → c ≤ 0 → d * 10 + c ≡ next x e d c
unfolding next
next_least x e d zero h = plus_none (d * 10)
next_least x e d (suc c) h = absurd (not-suc-le-zero h)

pub read_more : (x e d n : ℕ) → 0 < n → (read_at e d ≡ x → ⊥) → until_read x (e - 1) (next x (e - 1) d 9) (n - 1) ≡ until_read x e d n
unfolding until_read
read_more x e d zero h k = absurd (not-suc-le-zero h)
read_more x e d (suc n) h k = ap (until_read x (e - 1) (next x (e - 1) d 9)) (less n) ∙ ap (λ b. if b then (e, d) else until_read x (e - 1) (next x (e - 1) d 9) n) (sym (ne_eqb (read_at e d) x k))

pub read_stays : (x e d n : ℕ) → read_at e d ≡ x → (e, d) ≡ until_read x e d n
unfolding until_read
read_stays x e d zero k = refl
read_stays x e d (suc n) k = ap (λ b. if b then (e, d) else until_read x (e - 1) (next x (e - 1) d 9) n) (sym (eq-eqb (read_at e d) x k))

pub read_last : (x e d n : ℕ) → n ≤ 0 → (e, d) ≡ until_read x e d n
unfolding until_read
read_last x e d zero h = refl
read_last x e d (suc n) h = absurd (not-suc-le-zero h)

pub least_more : (x e d n : ℕ) → 0 < n → read_at e (d - 1) ≡ x → least x e (d - 1) (n - 1) ≡ least x e d n
unfolding least
least_more x e d zero h k = absurd (not-suc-le-zero h)
least_more x e d (suc n) h k = ap (least x e (d - 1)) (less n) ∙ ap (λ b. if b then least x e (d - 1) n else d) (sym (eq-eqb (read_at e (d - 1)) x k))

pub least_stays : (x e d n : ℕ) → (read_at e (d - 1) ≡ x → ⊥) → d ≡ least x e d n
unfolding least
least_stays x e d zero k = refl
least_stays x e d (suc n) k = ap (λ b. if b then least x e (d - 1) n else d) (sym (ne_eqb (read_at e (d - 1)) x k))

pub least_last : (x e d n : ℕ) → n ≤ 0 → d ≡ least x e d n
unfolding least
least_last x e d zero h = refl
least_last x e d (suc n) h = absurd (not-suc-le-zero h)

-- ---- how many digits there are

-- fewer than 17 digits
pub has_room : (d n : ℕ) → 0 < n → d < 10 ^ (17 - n) → d < 10 ^ 16
has_room d n h k = le_trans k (pow-le-pow_right {n = 10} (search arith) {i = 17 - n} {j = 16} (search arith))

-- one digit more
longer : (d d' m : ℕ) → d < 10 ^ m → d' < (d + 1) * 10 → d' < 10 ^ (suc m)
longer d d' m h k =
    let sum : (d + 1) * 10 ≡ suc d * 10 = search arith in
    le_trans (subst (λ q. d' < q) sum k) (subst (λ q. suc d * 10 ≤ q) (sym (pow-suc 10 m)) (mul-le-mul_right 10 h))

pub one_longer : (d d' n : ℕ) → 0 < n → n ≤ 16 → d < 10 ^ (17 - n) → d' < (d + 1) * 10 → d' < 10 ^ (17 - (n - 1))
one_longer d d' n h m k j = subst (λ i. d' < 10 ^ i) (let z : suc (17 - n) ≡ 17 - (n - 1) = search arith in z) (longer d d' (17 - n) k j)

-- at most 17 digits
pub within : (d n : ℕ) → d < 10 ^ (17 - n) → d < 10 ^ 17
within d n k = le_trans k (pow-le-pow_right {n = 10} (search arith) {i = 17 - n} {j = 17} (search arith))

-- a whole number
pub plain_above : (e : ℕ) (ds : List ℕ) → 400 ≤ e → ds ++ replicate (e - 400) 48 ++ codes ".0" ≡ plain e ds
plain_above e ds h = ap (λ b. if b then with_fraction (400 - e) ds else (ds ++ replicate (e - 400) 48 ++ codes ".0")) (sym (le-ltb e 400 h))
