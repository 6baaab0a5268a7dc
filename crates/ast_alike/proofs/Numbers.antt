-- Marks of arms, and the numbers of those that are marked.
use Rattle.std.proofs.Common.{◌≡◌, ℕ, zero, suc, ◌+◌, ◌-◌, ◌≤◌, Bool, true, false, cond, List, [], ◌∷◌, ◌++◌, get_or, set, length, replicate, drop, sym, refl, ap, ◌∙◌, append_assoc, append-nil, arith}
use Rattle.std.proofs.lemmas.List.{drop_all, length-replicate, length-set}
use Rattle.theory_meaning.specs.Tree.{SwitchTable}
use Rattle.theory_meaning.specs.Walk.{listed}
use Rattle.theory_spelling.specs.Listed.{marked, marks_of, number_in}
use Rattle.ast_alike.specs.Gaps.{gaps_from, gaps_after, number_by}
use Rattle.ast_alike.specs.declared.marks.Gaps.{Gaps}

-- ---- marks

pub marked-more : (ms : List Bool) (is js : List ℕ) → marked ms (is ++ js) ≡ marked (marked ms is) js
marked-more ms [] js = refl
marked-more ms (i ∷ is) js = marked-more (set ms i true) is js

pub marks_listed : (ms : List Bool) (is js ks : List ℕ) → marked (marked (marked ms is) js) ks ≡ marked ms (is ++ js ++ ks)
marks_listed ms is js ks = ap (λ l. marked l ks) (sym (marked-more ms is js)) ∙ sym (marked-more ms (is ++ js) ks)

marked-length : (ms : List Bool) (is : List ℕ) → length (marked ms is) ≡ length ms
marked-length ms [] = refl
marked-length ms (i ∷ is) = marked-length (set ms i true) is ∙ length-set ms i true

pub marks-length : (t : SwitchTable) (n : ℕ) → length (marks_of t n) ≡ n
marks-length t n = marked-length (replicate n false) (listed t) ∙ length-replicate n false

-- ---- numbers

gaps_number : (n : ℕ) (ms : List Bool) (i : ℕ) → number_in ms i + get_or (gaps_from n ms) i (gaps_after n ms) ≡ n + i
gaps_number n [] zero = omega arith
gaps_number n [] (suc i) = omega arith
gaps_number n (m ∷ ms) zero = omega arith
gaps_number n (true ∷ ms) (suc i) = omega (arith, gaps_number (n + 0) ms i)
gaps_number n (false ∷ ms) (suc i) = omega (arith, gaps_number (n + 1) ms i)

number_is : (ms : List Bool) (i : ℕ) → i - get_or (gaps_from 0 ms) i (gaps_after 0 ms) ≡ number_in ms i
number_is ms i = omega (arith, gaps_number 0 ms i)

pub numbers_are : (g : Gaps) (ms : List Bool) → g.before.items ≡ gaps_from 0 ms → g.all ≡ gaps_after 0 ms → number_by g ≡ number_in ms
numbers_are g ms h k = (λ n i. i - get_or (h n) i (k n)) ∙ (λ n i. number_is ms i n)

-- none is left
pub gaps_all : (g : Gaps) (ms : List Bool) (i : ℕ) → length ms ≤ i → g.before.items ++ gaps_from g.all (drop i ms) ≡ gaps_from 0 ms → gaps_after g.all (drop i ms) ≡ gaps_after 0 ms → number_by g ≡ number_in ms
gaps_all g ms i h p q =
    let none : drop i ms ≡ [] = drop_all i ms h in
    numbers_are g ms
    (sym (append-nil g.before.items) ∙ ap (λ l. g.before.items ++ gaps_from g.all l) (sym none) ∙ p)
    (ap (gaps_after g.all) (sym none) ∙ q)

-- one more of them
pub gaps_more : (before : List ℕ) (n : ℕ) (m : Bool) (ms ns : List Bool) → ns ≡ m ∷ ms → before ++ gaps_from n ns ≡ (before ++ n ∷ []) ++ gaps_from (n + cond m 0 1) ms
gaps_more before n m ms ns h = ap (λ l. before ++ gaps_from n l) h ∙ sym (append_assoc before (n ∷ []) (gaps_from (n + cond m 0 1) ms))
