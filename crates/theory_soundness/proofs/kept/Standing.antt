-- What the parts of a node may not become: a condition that is literally true stays so, a place stays the same place.
use Rattle.std.proofs.Common.{◌≡◌, ℕ, zero, suc, Bool, true, false, Option, Some, None, refl, sym, ap, ◌∙◌}
use Rattle.std.specs.Prelude.{◌&&◌, nat_lt}
use Rattle.base_tokens.specs.Names.{are_all}
use Rattle.theory_meaning.specs.Shape.{is_true, condition_at, case_fits, spares, default_fits, is_table}
use Rattle.theory_meaning.specs.Tree.{SwitchTable, Expr, BoolConstant, Arms, count_arms}
use Rattle.theory_rewriting.specs.Context.{Context}
use Rattle.theory_rewriting.specs.Rewriting.{ExprTo, ArmsTo, arms_none, arms_more}
use Rattle.theory_rewriting.proofs.Normal.{is_literal, literal_normal}

-- ---- literal conditions

true_is_literal : (e : Expr) → is_true e ≡ true → is_literal e ≡ true
true_is_literal (BoolConstant b) h = refl
true_is_literal _ h = absurd (let z : false ≡ true = h in cc)

true_stays : {k : Context} {d d' : Bool} {e e' : Expr} → ExprTo k d d' e e' → is_true e ≡ true → is_true e' ≡ true
true_stays {e = e} p h = ap is_true (literal_normal e (true_is_literal e h) _ _ _ p) ∙ h

-- ---- the table of a `switch` fits as it did

same_arms : {k : Context} {d d' : Bool} {as' bs : Arms} → ArmsTo k d d' as' bs → count_arms as' ≡ count_arms bs
same_arms arms_none = refl
same_arms (arms_more p q r) = ap suc (same_arms r)

condition_stays : {k : Context} {d d' : Bool} {as' bs : Arms} → ArmsTo k d d' as' bs → (i : ℕ) → condition_at as' i ≡ true → condition_at bs i ≡ true
condition_stays arms_none i h = h
condition_stays (arms_more p q r) zero h = true_stays p h
condition_stays (arms_more p q r) (suc i) h = condition_stays r i h

both_stay : (a a' b b' : Bool) → (a ≡ true → a' ≡ true) → (b ≡ true → b' ≡ true) → a && b ≡ true → a' && b' ≡ true
both_stay true a' b b' f g h = ap (λ x. x && b') (f refl) ∙ g h
both_stay false a' b b' f g h = absurd (let z : false ≡ true = h in cc)

default_stays : {k : Context} {d d' : Bool} {as' bs : Arms} → ArmsTo k d d' as' bs → (t : SwitchTable) (o : Option ℕ) → default_fits as' t o ≡ true → default_fits bs t o ≡ true
default_stays q t None h = h
default_stays {as' = as'} {bs = bs} q t (Some i) h =
    both_stay (nat_lt i (count_arms as') && condition_at as' i) (nat_lt i (count_arms bs) && condition_at bs i) (spares i t) (spares i t)
    (both_stay (nat_lt i (count_arms as')) (nat_lt i (count_arms bs)) (condition_at as' i) (condition_at bs i) (λ x. ap (λ n. nat_lt i n) (sym (same_arms q)) ∙ x) (condition_stays q i))
    (λ x. x) h

pub table_stays : {k : Context} {d d' : Bool} {as' bs : Arms} → ArmsTo k d d' as' bs → (t : SwitchTable) → is_table as' t ≡ true → is_table bs t ≡ true
table_stays {as' = as'} {bs = bs} q t h =
    let cases_fit : ℕ → Bool = λ n. are_all (case_fits n) t.cases in
    let ranges_fit : ℕ → Bool = λ n. are_all (λ r. nat_lt r.arm n) t.ranges in
    both_stay (cases_fit (count_arms as') && ranges_fit (count_arms as')) (cases_fit (count_arms bs) && ranges_fit (count_arms bs)) (default_fits as' t t.default) (default_fits bs t t.default)
    (λ x. ap (λ n. cases_fit n && ranges_fit n) (sym (same_arms q)) ∙ x)
    (default_stays q t t.default) h
