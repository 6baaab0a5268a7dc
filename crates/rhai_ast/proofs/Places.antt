-- The first of the places that a table lists.
use Rattle.std.proofs.Common.{◌≡◌, ◌≤◌, ◌-◌, ◌+◌, ℕ, zero, suc, List, [], ◌∷◌, ◌++◌, map, drop, length, Option, Some, None, MatchOption, slice_get, refl, sym, ap, subst, ◌∙◌, append_assoc, add-one, arith}
use Rattle.std.specs.Borrow.{Bor}
use Rattle.std.specs.Slice.{IsItemAt}
use Rattle.std.specs.Map.{values_of}
use Rattle.std.proofs.Math.Seq.{drop-append-add}
use Rattle.rhai_base.specs.declared.dynamic.Dynamic.{Dynamic}
use Rattle.rhai_base.specs.declared.range_case.RangeCase.{RangeCase}
use Rattle.rhai_base.specs.Ranges.{index_of}
use Rattle.rhai_base.specs.declared.cases.CaseBlocksList.{CaseBlocksList}
use Rattle.theory_meaning.specs.Walk.{arms_of_cases, arms_of_ranges}
use Rattle.ast_types.specs.Reading.{case_of, range_of}
use Rattle.ast_types.proofs.Ranges.{range_arm}
use Rattle.rhai_ast.proofs.Items.{item_past, item_there}

-- the places that are left: of cases from one on, of ranges, and of the default
abbrev pub left_by : List (Dynamic × CaseBlocksList) → List RangeCase → ℕ → ℕ → List ℕ → List ℕ
left_by es rs k t d = drop t (arms_of_cases (drop k (map case_of es)) ++ arms_of_ranges (map range_of rs)) ++ d

-- ---- of places one after another

place_at : (bs ys : List ℕ) (t p : ℕ) → slice_get bs t ≡ Some p → drop t (bs ++ ys) ≡ p ∷ drop (suc t) (bs ++ ys)
place_at [] ys t p e = absurd (let z : None ≡ Some p = e in cc)
place_at (b ∷ bs) ys zero p e = ap (λ q. q ∷ (bs ++ ys)) (let z : Some b ≡ Some p = e in cc)
place_at (b ∷ bs) ys (suc t) p e = place_at bs ys t p e

past : (bs ys : List ℕ) (t : ℕ) → length bs ≤ t → drop t (bs ++ ys) ≡ drop (t - length bs) ys
past bs ys t h =
    let rest : t ≡ length bs + (t - length bs) = omega (arith, h) in
    ap (λ n. drop n (bs ++ ys)) rest ∙ drop-append-add bs ys (t - length bs)

-- ---- of cases

cases_at : (es : List (Dynamic × CaseBlocksList)) (k : ℕ) (v : CaseBlocksList) → slice_get (values_of es) k ≡ Some v → arms_of_cases (drop k (map case_of es)) ≡ v.blocks ++ arms_of_cases (drop (suc k) (map case_of es))
cases_at [] k v q = absurd (let z : None ≡ Some v = q in cc)
cases_at (c ∷ es) zero v q = ap (λ (w : CaseBlocksList). w.blocks ++ arms_of_cases (map case_of es)) (let z : Some c.1 ≡ Some v = q in cc)
cases_at (c ∷ es) (suc k) v q = cases_at es k v q

no_cases : (es : List (Dynamic × CaseBlocksList)) (k : ℕ) → length es ≤ k → arms_of_cases (drop k (map case_of es)) ≡ []
no_cases [] zero h = refl
no_cases [] (suc k) h = refl
no_cases (c ∷ es) zero h = absurd (omega (arith, h))
no_cases (c ∷ es) (suc k) h = no_cases es k (omega (arith, h))

-- ---- of ranges

range_at : (rs : List RangeCase) (t : ℕ) (r : RangeCase) → slice_get rs t ≡ Some r → drop t (arms_of_ranges (map range_of rs)) ≡ index_of r ∷ drop (suc t) (arms_of_ranges (map range_of rs))
range_at [] t r q = absurd (let z : None ≡ Some r = q in cc)
range_at (s ∷ rs) zero r q =
    let same : s ≡ r = (let z : Some s ≡ Some r = q in cc) in
    ap (λ i. i ∷ arms_of_ranges (map range_of rs)) (range_arm s ∙ ap index_of same)
range_at (s ∷ rs) (suc t) r q = range_at rs t r q

no_ranges : (rs : List RangeCase) (t : ℕ) → slice_get rs t ≡ None → drop t (arms_of_ranges (map range_of rs)) ≡ []
no_ranges [] zero q = refl
no_ranges [] (suc t) q = refl
no_ranges (s ∷ rs) zero q = absurd (let z : Some s ≡ None = q in cc)
no_ranges (s ∷ rs) (suc t) q = no_ranges rs t q

-- ---- what is left

pub range-some : (rs xs : List RangeCase) (t i : ℕ) (r : Bor RangeCase) (d : List ℕ) → xs ≡ rs → IsItemAt xs t (Some r) → i ≡ index_of r.now → drop t (arms_of_ranges (map range_of rs)) ++ d ≡ i ∷ drop (t + 1) (arms_of_ranges (map range_of rs)) ++ d
range-some rs xs t i r d same h e = rw (add-one, e) (ap (λ is. is ++ d) (range_at rs t r.now (item_there rs xs t r same h)))

pub range-none : (rs xs : List RangeCase) (t : ℕ) (d : List ℕ) → xs ≡ rs → IsItemAt xs t None → drop t (arms_of_ranges (map range_of rs)) ++ d ≡ d
range-none rs xs t d same h = ap (λ is. is ++ d) (no_ranges rs t (item_past rs xs t same h))

-- as `left_by`, with the places of the first case apart
first_apart : (es : List (Dynamic × CaseBlocksList)) (rs : List RangeCase) (k t : ℕ) (v : CaseBlocksList) (d : List ℕ) → slice_get (values_of es) k ≡ Some v → left_by es rs k t d ≡ drop t (v.blocks ++ (arms_of_cases (drop (suc k) (map case_of es)) ++ arms_of_ranges (map range_of rs))) ++ d
first_apart es rs k t v d q = ap (λ is. drop t (is ++ arms_of_ranges (map range_of rs)) ++ d) (cases_at es k v q) ∙ ap (λ is. drop t is ++ d) (append_assoc v.blocks (arms_of_cases (drop (suc k) (map case_of es))) (arms_of_ranges (map range_of rs)))

pub case-some : (es fs : List (Dynamic × CaseBlocksList)) (rs : List RangeCase) (k t : ℕ) (bs : List ℕ) (v : CaseBlocksList) (p : Bor ℕ) (d : List ℕ) → fs ≡ es → slice_get (values_of fs) k ≡ Some v → bs ≡ v.blocks → IsItemAt bs t (Some p) → left_by es rs k t d ≡ p.now ∷ left_by es rs k (t + 1) d
case-some es fs rs k t bs v p d given q same h =
    let first : (n : ℕ) → left_by es rs k n d ≡ drop n (v.blocks ++ (arms_of_cases (drop (suc k) (map case_of es)) ++ arms_of_ranges (map range_of rs))) ++ d = λ n. first_apart es rs k n v d (ap (λ gs. slice_get (values_of gs) k) (sym given) ∙ q) in
    rw (add-one)
    (first t
    ∙ ap (λ is. is ++ d) (place_at v.blocks (arms_of_cases (drop (suc k) (map case_of es)) ++ arms_of_ranges (map range_of rs)) t p.now (item_there v.blocks bs t p same h))
    ∙ ap (λ is. p.now ∷ is) (sym (first (suc t))))

pub case-past : (es fs : List (Dynamic × CaseBlocksList)) (rs : List RangeCase) (k t n : ℕ) (bs : List ℕ) (v : CaseBlocksList) (d : List ℕ) → fs ≡ es → slice_get (values_of fs) k ≡ Some v → bs ≡ v.blocks → IsItemAt bs t None → n ≡ length v.blocks → left_by es rs (k + 1) (t - n) d ≡ left_by es rs k t d
case-past es fs rs k t n bs v d given q same h e =
    rw (add-one, e)
    (sym (first_apart es rs k t v d (ap (λ gs. slice_get (values_of gs) k) (sym given) ∙ q)
    ∙ ap (λ is. is ++ d) (past v.blocks (arms_of_cases (drop (suc k) (map case_of es)) ++ arms_of_ranges (map range_of rs)) t (subst (λ ys. length ys ≤ t) same h.3))))

pub cases-none : (es fs : List (Dynamic × CaseBlocksList)) (rs : List RangeCase) (k t n : ℕ) (d : List ℕ) → fs ≡ es → n ≡ length fs → n ≤ k → left_by es rs k t d ≡ drop t (arms_of_ranges (map range_of rs)) ++ d
cases-none es fs rs k t n d given e h = ap (λ is. drop t (is ++ arms_of_ranges (map range_of rs)) ++ d) (no_cases es k (subst (λ m. m ≤ k) (e ∙ ap (λ gs. length gs) given) h))

-- what is found among ranges is found where no case is left
pub by-ranges : (r : Option ℕ) (a b d e m n : List ℕ) → a ≡ b → e ≡ d → n ≡ m → MatchOption r (b ≡ d) (λ i. b ≡ i ∷ m) → MatchOption r (a ≡ e) (λ i. a ≡ i ∷ n)
by-ranges r a b d e m n p q s h = rw (p, q, s) h
